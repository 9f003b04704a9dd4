-- What the calls on a view's pages keep.
use Rattle.std.proofs.Common.{◌≡◌, ℕ, ◌+◌, ◌-◌, ◌<◌, ◌^◌, Bool, Result, Ok, Err, OnOk, OnErr, List, [], ◌∷◌, ◌++◌, Contains, length, take, get_or, reverse, refl, ap, sym, ◌∙◌, subst, arith}
use Rattle.std.proofs.lemmas.List.{reverse-append, length-reverse, take_all, take_more}
use Rattle.ts_page.specs.Pages.{Contents, IsLawful, IsElementPage, with_page, Put, Freed}
use Rattle.ts_page.proofs.PagesLemmas.{few_free, lawful_put, lawful_freed, lawful_taken}
use Rattle.ts_journal.specs.declared.batch.Change.{Change}
use Rattle.ts_journal.specs.declared.batch.Change.TheVariants.{Free}
use Rattle.ts_journal.specs.Journal.{Entry, content, over, put}
use Rattle.ts_journal.proofs.CallerLemmas.{over_put}
use Rattle.ts_views.specs.Pages.{view_pages, view_contents}

module _ (tells : Bool) (old own es fs : List Entry) (c : Contents) (number : ℕ) where
  same_pages : (change : Change) (free : List ℕ) → fs ≡ put number change es → (k : ℕ) → (view_contents old own fs free c).page k ≡ with_page number (content change) (view_contents old own es free c).page k
  same_pages change free is k = ap (λ (l : List Entry). over l (view_pages old own c.page) k) is ∙ over_put es number change (view_pages old own c.page) k

  -- a page is put
  pub view_lawful : {E : Type 0} (r : Result Unit E) (change : Change) (free : List ℕ) → OnOk r (fs ≡ put number change es) → OnErr r (fs ≡ es) → ¬ Contains free number
      → IsLawful tells (view_contents old own es free c) → IsLawful tells (view_contents old own fs free c)
  view_lawful (Ok done) change free ok err absent lawful =
      lawful_put tells (view_contents old own es free c) (view_contents old own fs free c) lawful refl number (content change) absent (λ told. same_pages change free ok) refl
  view_lawful (Err e) change free ok err absent lawful = subst (λ (l : List Entry). IsLawful tells (view_contents old own l free c)) (sym err) lawful

  pub view_put : (change : Change) (bytes free : List ℕ) → bytes ≡ content change → fs ≡ put number change es → Put tells number bytes (Ok tt) (view_contents old own es free c) (view_contents old own fs free c)
  view_put change bytes free is done = record {
    call = record { count = refl; faults = omega arith; cause = λ failed. absurd (cc); no_fault = λ other. refl };
    put = λ told k. same_pages change free done k ∙ ap (λ (b : List ℕ). with_page number b (view_contents old own es free c).page k) (sym is);
    free = refl;
    pages_stay = tt;
    change_bytes = omega arith;
    again = λ imaged. omega arith;
    images = λ other imaged. imaged;
    imaged = refl;
  }

  -- a page is freed
  pub view_freed_lawful : (free more : List ℕ) → more ≡ number ∷ free → fs ≡ put number Free es → IsElementPage number → number < c.count → ¬ Contains free number
      → IsLawful tells (view_contents old own es free c) → IsLawful tells (view_contents old own fs more c)
  view_freed_lawful free more is done element below absent lawful =
      lawful_freed tells (view_contents old own es free c) (view_contents old own fs more c) lawful refl number element below absent (λ told. same_pages Free free done) is

  pub view_freed : (free more : List ℕ) → more ≡ number ∷ free → fs ≡ put number Free es → Freed tells number (Ok tt) (view_contents old own es free c) (view_contents old own fs more c)
  view_freed free more is done = record {
    call = record { count = refl; faults = omega arith; cause = λ failed. absurd (cc); no_fault = λ other. refl };
    freed = λ told k. same_pages Free free done k;
    listed = is;
    pages_stay = tt;
    free_stays = tt;
    change_bytes = omega arith;
    images = λ other differs imaged. imaged;
  }

-- what is pushed is the next to be taken
pub pushed : (free more : List ℕ) (number : ℕ) → more ≡ free ++ number ∷ [] → reverse more ≡ number ∷ reverse free
pushed free more number is = ap reverse is ∙ reverse-append free (number ∷ [])

last_taken : (free rest : List ℕ) (n : ℕ) → n ≡ length free → 0 < length (reverse free) → rest ≡ take (n - 1) free → reverse free ≡ get_or free (n - 1) 0 ∷ reverse rest
last_taken free rest n size some is =
    let long : 0 < length free = omega (arith, length-reverse free, some) in
    let whole : take (n - 1 + 1) free ≡ free = take_all (n - 1 + 1) free (omega (arith, size, long)) in
    let split : free ≡ rest ++ get_or free (n - 1) 0 ∷ [] = sym whole ∙ take_more free (n - 1) 0 (omega (arith, size, long)) ∙ ap (λ (l : List ℕ). l ++ get_or free (n - 1) 0 ∷ []) (sym is) in
    ap reverse split ∙ reverse-append rest (get_or free (n - 1) 0 ∷ [])

-- a page is taken
pub view_taken : (tells : Bool) (old own es : List Entry) (c : Contents) (free rest : List ℕ) (n : ℕ) → n ≡ length free → 0 < length (reverse free) → rest ≡ take (n - 1) free
    → IsLawful tells (view_contents old own es (reverse free) c) → IsLawful tells (view_contents old own es (reverse rest) c)
view_taken tells old own es c free rest n size some is lawful =
    lawful_taken tells (view_contents old own es (reverse free) c) (view_contents old own es (reverse rest) c) lawful refl (get_or free (n - 1) 0) (λ told number. refl) (last_taken free rest n size some is)

-- no more pages are free than there are
pub view_few : (tells : Bool) (old own es : List Entry) (c : Contents) (free : List ℕ) (n : ℕ) → n ≡ length free → c.count < 2 ^ 32 → IsLawful tells (view_contents old own es (reverse free) c) → n < 2 ^ 32
view_few tells old own es c free n size few lawful = omega (arith, size, few, length-reverse free, few_free tells (view_contents old own es (reverse free) c) lawful)
