-- What the calls on an open batch keep.
use Rattle.std.proofs.Common.{◌≡◌, ◌≢◌, ℕ, ◌*◌, ◌<◌, ◌≤◌, ◌^◌, eqb, Bool, IsTrue, Result, Ok, Err, OnOk, OnErr, Option, Some, List, ◌∷◌, Contains, length, refl, ap, sym, ◌∙◌, subst, arith}
use Rattle.std.proofs.lemmas.Bool.{cond_both, cond-true, cond-false, eq-eqb, ne_eqb}
use Rattle.ts_disk.specs.Device.{Device, Lawful}
use Rattle.ts_page.specs.declared.page.Page.{Page}
use Rattle.ts_page.specs.Pages.{IsLawful, IsElementPage, with_page, Put, Freed}
use Rattle.ts_page.proofs.PagesLemmas.{few_free, lawful_put, lawful_freed, lawful_taken}
use Rattle.ts_journal.specs.declared.batch.Change.{Change}
use Rattle.ts_journal.specs.declared.batch.Change.TheVariants.{Image, Free}
use Rattle.ts_journal.specs.Journal.{Entry, IsBatch, change_of, content, entry_bytes, entries_bytes, is_image, over, put, own_page}
use Rattle.ts_journal.proofs.CallerLemmas.{change_of-put, over_put}
use Rattle.ts_recover.proofs.CallerLemmas.{reads_none}
use Rattle.ts_cache.specs.Cache.{after_forget}
use Rattle.ts_store.specs.OpenBatch.{State, AreInPlace, read_pages, contents_over}
use Rattle.ts_store.specs.Undisturbed.{Undisturbed}
use Rattle.ts_store.proofs.CacheLemmas.{forget_cached}
use Rattle.ts_store.proofs.JoinLemmas.{image_bytes, put_again, put_bytes}

pub free_bytes : (number : ℕ) → length (entry_bytes (number, Free)) ≡ 5
free_bytes number = refl

-- the images of a batch once one is put
image_there : (es : List Entry) (number : ℕ) (page : Page) → IsTrue (is_image (change_of number (put number (Image page) es)))
image_there es number page =
    ap is_image (change_of-put es number (Image page) number ∙ cond-true (eqb number number) (Some (Image page)) (change_of number es) (eq-eqb number number refl))

image_stays : (es : List Entry) (number n : ℕ) (page : Page) → IsTrue (is_image (change_of n es)) → IsTrue (is_image (change_of n (put number (Image page) es)))
image_stays es number n page there =
    subst (λ (o : Option Change). IsTrue (is_image o)) (sym (change_of-put es number (Image page) n))
    (cond_both (eqb number n) (Some (Image page)) (change_of n es) (λ o. IsTrue (is_image o)) (λ here. refl) (λ off. there))

-- and once a page is freed
others_imaged : (es : List Entry) (number n : ℕ) → n ≢ number → IsTrue (is_image (change_of n es)) → IsTrue (is_image (change_of n (put number Free es)))
others_imaged es number n other there =
    subst (λ (o : Option Change). IsTrue (is_image o))
    (sym (change_of-put es number Free n ∙ cond-false (eqb number n) (Some Free) (change_of n es) (ne_eqb number n (λ same. other (sym same))))) there

-- a page put over a store
module _ (tells : Bool) (s t : State) (d : Device) (number : ℕ) where
  pub put_lawful : {E : Type 0} (r : Result Unit E) (change : Change) → OnOk r (t ≡ record s { batch = put number change s.batch; cache = after_forget number s.cache }) → OnErr r (t ≡ s)
      → ¬ Contains s.free number → IsLawful tells (contents_over s d) → IsLawful tells (contents_over t d)
  put_lawful (Ok done) change ok err absent lawful =
      let next : State = record s { batch = put number change s.batch; cache = after_forget number s.cache } in
      subst (λ (x : State). IsLawful tells (contents_over x d)) (sym ok)
      (lawful_put tells (contents_over s d) (contents_over next d) lawful refl number (content change) absent
      (λ told n. over_put s.batch number change (over s.transaction (over s.overlay (own_page d.held))) n) refl)
  put_lawful (Err e) change ok err absent lawful = subst (λ (x : State). IsLawful tells (contents_over x d)) (sym err) lawful

  pub free_lawful : {E : Type 0} (r : Result Unit E) → OnOk r (t ≡ record s { batch = put number Free s.batch; free = number ∷ s.free; cache = after_forget number s.cache }) → OnErr r (t ≡ s)
      → IsElementPage number → number < s.pages → ¬ Contains s.free number → IsLawful tells (contents_over s d) → IsLawful tells (contents_over t d)
  free_lawful (Ok done) ok err element below absent lawful =
      let next : State = record s { batch = put number Free s.batch; free = number ∷ s.free; cache = after_forget number s.cache } in
      subst (λ (x : State). IsLawful tells (contents_over x d)) (sym ok)
      (lawful_freed tells (contents_over s d) (contents_over next d) lawful refl number element below absent
      (λ told n. over_put s.batch number Free (over s.transaction (over s.overlay (own_page d.held))) n) refl)
  free_lawful (Err e) ok err element below absent lawful = subst (λ (x : State). IsLawful tells (contents_over x d)) (sym err) lawful

  pub same_size : {E : Type 0} (r : Result Unit E) → OnOk r (t.pages ≡ s.pages) → OnErr r (t.pages ≡ s.pages) → d.size ≡ 4096 * s.pages → d.size ≡ 4096 * t.pages
  same_size (Ok done) ok err size = omega (arith, size, ok)
  same_size (Err e) ok err size = omega (arith, size, err)

  pub put_done : (page : Page) → IsBatch s.batch → length page.bytes ≡ 4096 → t ≡ record s { batch = put number (Image page) s.batch; cache = after_forget number s.cache } → Put tells number page.bytes (Ok tt) (contents_over s d) (contents_over t d)
  put_done page rules whole done =
      let kept = ap (λ (x : State). length (entries_bytes x.transaction)) done in
      let batch = ap (λ (x : State). x.batch) done in
      let bytes = ap (λ (es : List Entry). length (entries_bytes es)) batch in
      record {
        call = record { count = ap (λ (x : State). x.pages) done; faults = omega arith; cause = λ failed. absurd (cc); no_fault = λ other. refl };
        put = λ told n. ap (λ (x : State). read_pages x d.held n) done ∙ over_put s.batch number (Image page) (over s.transaction (over s.overlay (own_page d.held))) n;
        free = ap (λ (x : State). x.free) done;
        pages_stay = tt;
        change_bytes = omega (arith, kept, bytes, put_bytes s.batch number (Image page), image_bytes number page whole);
        again = λ there. omega (arith, kept, bytes, put_again s.batch 0 (2 ^ 32) number page rules.rising rules.whole whole there);
        images = λ n there. subst (λ (es : List Entry). IsTrue (is_image (change_of n es))) (sym batch) (image_stays s.batch number n page there);
        imaged = subst (λ (es : List Entry). IsTrue (is_image (change_of number es))) (sym batch) (image_there s.batch number page);
      }

  pub free_done : t ≡ record s { batch = put number Free s.batch; free = number ∷ s.free; cache = after_forget number s.cache } → Freed tells number (Ok tt) (contents_over s d) (contents_over t d)
  free_done done = record {
    call = record { count = ap (λ (x : State). x.pages) done; faults = omega arith; cause = λ failed. absurd (cc); no_fault = λ other. refl };
    freed = λ told n. ap (λ (x : State). read_pages x d.held n) done ∙ over_put s.batch number Free (over s.transaction (over s.overlay (own_page d.held))) n;
    listed = ap (λ (x : State). x.free) done;
    pages_stay = tt;
    free_stays = tt;
    change_bytes = omega (arith, ap (λ (x : State). length (entries_bytes x.transaction)) done, ap (λ (x : State). length (entries_bytes x.batch)) done, put_bytes s.batch number Free, free_bytes number);
    images = λ n other there. subst (λ (es : List Entry). IsTrue (is_image (change_of n es))) (sym (ap (λ (x : State). x.batch) done)) (others_imaged s.batch number n other there);
  }

  pub take_lawful : s ≡ record t { free = number ∷ t.free } → IsLawful tells (contents_over s d) → IsLawful tells (contents_over t d)
  take_lawful taken lawful =
      lawful_taken tells (contents_over s d) (contents_over t d) lawful (sym (ap (λ (x : State). x.pages) taken)) number
      (λ told n. sym (ap (λ (x : State). read_pages x d.held n) taken)) (ap (λ (x : State). x.free) taken)

-- a page was put or freed, or nothing was done
module _ (tells : Bool) (s t : State) (d : Device) (lawful : Lawful tells d) (number : ℕ) where
  forgot_undisturbed : (batch : List Entry) (free : List ℕ) → t ≡ record s { batch = batch; free = free; cache = after_forget number s.cache } → Undisturbed tells s t d d
  forgot_undisturbed batch free is = record {
    pages = ap (λ (x : State). x.pages) is;
    journal = ap (λ (x : State). x.journal) is;
    overlay = ap (λ (x : State). x.overlay) is;
    transaction = ap (λ (x : State). x.transaction) is;
    kept_free = ap (λ (x : State). x.kept_free) is;
    base_free = ap (λ (x : State). x.base_free) is;
    reads = reads_none tells d lawful;
    cached = λ told now. subst (AreInPlace d.held) (sym (ap (λ (x : State). x.cache) is)) (forget_cached d.held number s.cache now);
  }

  pub put_undisturbed : (change : Change) → t ≡ record s { batch = put number change s.batch; cache = after_forget number s.cache } → Undisturbed tells s t d d
  put_undisturbed change is = forgot_undisturbed (put number change s.batch) s.free is

  pub free_undisturbed : t ≡ record s { batch = put number Free s.batch; free = number ∷ s.free; cache = after_forget number s.cache } → Undisturbed tells s t d d
  free_undisturbed is = forgot_undisturbed (put number Free s.batch) (number ∷ s.free) is

  pub same_undisturbed : t ≡ s → Undisturbed tells s t d d
  same_undisturbed is = subst (λ (x : State). Undisturbed tells s x d d) (sym is)
      (record { pages = refl; journal = refl; overlay = refl; transaction = refl; kept_free = refl; base_free = refl; reads = reads_none tells d lawful; cached = λ told now. now })

pub few_spare : (tells : Bool) (s : State) (d : Device) → s.pages < 2 ^ 32 → IsLawful tells (contents_over s d) → length s.free < 2 ^ 32
few_spare tells s d few lawful = omega (arith, few, few_free tells (contents_over s d) lawful)
