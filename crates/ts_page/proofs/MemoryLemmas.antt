-- Pages in memory stay lawful.
use Rattle.std.proofs.Common.{◌≡◌, inl, inr, ℕ, ◌+◌, ◌-◌, ◌<◌, ◌^◌, true, List, [], ◌∷◌, ◌++◌, All, Contains, length, take, set, get_or, reverse, refl, sym, ◌∙◌, ap, subst, arith}
use Rattle.std.specs.List.Sorted.{IsStrictlyIncreasing}
use Rattle.std.proofs.lemmas.Bool.{cases_eq, eq-eqb}
use Rattle.std.proofs.lemmas.List.{reverse-append, reverse-reverse, length-reverse, length-set, get_or-set_same, get_or-set_other, take_all, take_more}
use Rattle.std.proofs.lemmas.List.Kept.{AllPairs-from_increasing}
use Rattle.ts_page.specs.declared.page.Page.{Page}
use Rattle.ts_page.specs.Pages.{zero_page, IsListed, IsLawful, IsElementPage, with_page, page_at, kept}
use Rattle.ts_page.proofs.PagesLemmas.{with_other, few_free, lawful_freed, lawful_taken}

pub set_page : (pages : List Page) (changed number : ℕ) (page : Page) → changed < length pages → page_at (set pages changed page) number ≡ with_page changed page.bytes (page_at pages) number
set_page pages changed number page within =
    let none : Page = record { bytes = [] } in
    elim (cases_eq changed number) [
      | inl same ↦
          let there : get_or (set pages changed page) number none ≡ page =
          subst (λ (k : ℕ). get_or (set pages changed page) k none ≡ page) same (get_or-set_same pages changed page none within) in
          ap (λ (p : Page). p.bytes) there ∙ sym (rw (eq-eqb changed number same))
      | inr other ↦
          ap (λ (p : Page). p.bytes) (get_or-set_other pages changed number page none (λ e. other (sym e)))
          ∙ sym (with_other changed number page.bytes (page_at pages) other)
    ]

pub lawful_new : (pages : List Page) (free turned : List ℕ) → turned ≡ reverse free → IsStrictlyIncreasing free → All (IsListed true (kept pages free)) free → IsLawful true (kept pages (reverse turned))
lawful_new pages free turned is rising listed =
    let back : reverse turned ≡ free = ap reverse is ∙ reverse-reverse free in
    subst (λ (l : List ℕ). IsLawful true (kept pages l)) (sym back)
    (record {
      different = λ i j d before within same. omega (arith, AllPairs-from_increasing free rising i j d before within, same);
      listed = λ k d within. let l = listed k d within in record { element = l.element; below = l.below; free = l.free };
    })

pub lawful_free : (pages : List Page) (free : List ℕ) (number : ℕ) (page : Page) → page.bytes ≡ zero_page → IsElementPage number → number < length pages → ¬ Contains (reverse free) number
    → IsLawful true (kept pages (reverse free)) → IsLawful true (kept (set pages number page) (reverse (free ++ number ∷ [])))
lawful_free pages free number page zeros element below absent lawful =
    lawful_freed true (kept pages (reverse free)) (kept (set pages number page) (reverse (free ++ number ∷ []))) lawful (length-set pages number page) number element below absent
    (λ told n. set_page pages number n page below ∙ ap (λ (b : List ℕ). with_page number b (page_at pages) n) zeros)
    (reverse-append free (number ∷ []))

pub last_taken : (free rest : List ℕ) (n : ℕ) → n ≡ length free → 0 < length (reverse free) → rest ≡ take (n - 1) free → reverse free ≡ get_or free (n - 1) 0 ∷ reverse rest
last_taken free rest n size some is =
    let long : 0 < length free = omega (arith, length-reverse free, some) in
    let whole : take (n - 1 + 1) free ≡ free = take_all (n - 1 + 1) free (omega (arith, size, long)) in
    let split : free ≡ rest ++ get_or free (n - 1) 0 ∷ [] = sym whole ∙ take_more free (n - 1) 0 (omega (arith, size, long)) ∙ ap (λ (l : List ℕ). l ++ get_or free (n - 1) 0 ∷ []) (sym is) in
    ap reverse split ∙ reverse-append rest (get_or free (n - 1) 0 ∷ [])

pub lawful_take : (pages : List Page) (free rest : List ℕ) (n : ℕ) → n ≡ length free → 0 < length (reverse free) → rest ≡ take (n - 1) free → IsLawful true (kept pages (reverse free)) → IsLawful true (kept pages (reverse rest))
lawful_take pages free rest n size some is lawful =
    lawful_taken true (kept pages (reverse free)) (kept pages (reverse rest)) lawful refl (get_or free (n - 1) 0) (λ told number. refl) (last_taken free rest n size some is)

pub few_spare : (pages : List Page) (free : List ℕ) (n : ℕ) → n ≡ length free → length pages < 2 ^ 32 → IsLawful true (kept pages (reverse free)) → n < 2 ^ 32
few_spare pages free n size few lawful = omega (arith, size, few, length-reverse free, few_free true (kept pages (reverse free)) lawful)
