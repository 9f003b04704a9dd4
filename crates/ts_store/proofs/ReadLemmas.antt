-- What is read over a volume: the open batch, else the transaction, else the overlay, else the page in its place.
use Rattle.std.proofs.Common.{◌≡◌, inl, inr, ⊎_elim, ℕ, ◌*◌, ◌^◌, eqb, Option, Some, None, List, [], ◌∷◌, refl, ap, sym, ◌∙◌, subst}
use Rattle.std.proofs.lemmas.Bool.{cond-true, cond-false, cases_eq, eq-eqb, ne_eqb, not-true}
use Rattle.ts_page.specs.Pages.{bytes_at, IsElementPage, SameButFreed, IsOutsideJournal}
use Rattle.ts_journal.specs.declared.batch.Change.{Change}
use Rattle.ts_journal.specs.declared.batch.Change.TheVariants.{Image, Free}
use Rattle.ts_journal.specs.Journal.{Entry, AreAllowed, IsRising, is_region, change_of, changed, change_or, over, own_page, pages, StandsOver, ReadsButFreed, SameOrFreed}
use Rattle.ts_journal.proofs.CallerLemmas.{no_region, over_pages}
use Rattle.ts_journal.proofs.OverLemmas.{over_all}
use Rattle.ts_store.specs.OpenBatch.{State, to_commit, change_read, read_pages}

-- so it is the open batch and the transaction over the pages of the volume that is read
pub read_over : (s : State) (held : List ℕ) → StandsOver s.journal s.overlay held → (k : ℕ) → read_pages s held k ≡ over s.batch (over s.transaction (pages held)) k
read_over s held stands k =
    ap (λ (page : List ℕ). changed (change_of k s.batch) (changed (change_of k s.transaction) page)) (sym (over_pages s.journal s.overlay held stands k))

-- with no change of these, just the pages of the volume
pub read_closed : (s : State) (held : List ℕ) → s.transaction ≡ [] → s.batch ≡ [] → StandsOver s.journal s.overlay held → (k : ℕ) → read_pages s held k ≡ pages held k
read_closed s held closed none stands k =
    read_over s held stands k ∙ (λ i. over (none i) (over (closed i) (pages held)) k)

-- what is to be committed is what is read over other pages
pub read_joined : (s : State) (own : ℕ → List ℕ) (k : ℕ) → IsRising 0 (2 ^ 32) s.batch → over (to_commit s) own k ≡ over s.batch (over s.transaction own) k
read_joined s own k rising = over_all s.transaction s.batch 0 (2 ^ 32) own k rising

-- outside the journal a page in its place has its bytes there
pub own_outside : (held : List ℕ) (k : ℕ) → IsOutsideJournal k → own_page held k ≡ bytes_at (4096 * k) 4096 held
own_outside held k outside = cond-false (is_region k) [] (bytes_at (4096 * k) 4096 held) (not-true (is_region k) (no_region k outside))

-- a page without a change is read in its place
pub read_clean : (s : State) (held : List ℕ) (k : ℕ) → change_read k s ≡ None → IsOutsideJournal k → read_pages s held k ≡ bytes_at (4096 * k) 4096 held
read_clean s held k none outside = here (change_of k s.batch) (change_of k s.transaction) (change_of k s.overlay) none
  where
    here : (b t o : Option Change) → change_or b (change_or t o) ≡ None → changed b (changed t (changed o (own_page held k))) ≡ bytes_at (4096 * k) 4096 held
    here (Some c) t o is = absurd (cc)
    here None (Some c) o is = absurd (cc)
    here None None (Some c) is = absurd (cc)
    here None None None is = own_outside held k outside

-- only an element page is freed
pub freed_element : (count : ℕ) (es : List Entry) (k : ℕ) → AreAllowed count es → change_of k es ≡ Some Free → IsElementPage k
freed_element count [] k allowed is = absurd (cc)
freed_element count ((n, Image page) ∷ es) k allowed is = elim (cases_eq n k) [
  | inl here ↦ absurd (cc (sym (cond-true (eqb n k) (Some (Image page)) (change_of k es) (eq-eqb n k here)) ∙ is))
  | inr there ↦ freed_element count es k allowed.1 (sym (cond-false (eqb n k) (Some (Image page)) (change_of k es) (ne_eqb n k there)) ∙ is)
]
freed_element count ((n, Free) ∷ es) k allowed is = elim (cases_eq n k) [
  | inl here ↦ subst IsElementPage here allowed.0.freeable
  | inr there ↦ freed_element count es k allowed.1 (sym (cond-false (eqb n k) (Some Free) (change_of k es) (ne_eqb n k there)) ∙ is)
]

-- what an emptied journal leaves of the pages
pub same_but_freed : (count bytes : ℕ) (es : List Entry) (wanted : ℕ → List ℕ) (image : List ℕ) → AreAllowed count es → ReadsButFreed bytes es wanted image → SameButFreed wanted (pages image)
same_but_freed count bytes es wanted image allowed reads k =
    ⊎_elim (λ same. inl same) (λ freed. inr (freed_element count es k allowed freed.0, freed.1, freed.2)) (reads.same k)

-- where the entries free nothing, nothing differs
pub same_over : (es : List Entry) (o : Option Change) (k : ℕ) (a b : List ℕ) → SameOrFreed es k a b → SameOrFreed es k (changed o a) (changed o b)
same_over es None k a b same = same
same_over es (Some change) k a b same = inl refl
