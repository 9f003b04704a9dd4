-- The pages of a series one after the other, and the rows that they have at the offsets of a range.
use Rattle.std.proofs.Common.{◌≡◌, ℕ, zero, suc, ◌+◌, ◌-◌, ◌<◌, ◌≤◌, ℤ, Option, None, List, [], ◌∷◌, ◌++◌, length, take, drop, get_or, refl, sym, ap, subst, ◌∙◌, arith}
use Rattle.ts_space.specs.declared.place.Place.{Place}
use Rattle.ts_space.specs.Place.{AreAbove, IsRising}
use Rattle.ts_row.specs.declared.kind.Column.{Column}
use Rattle.ts_row.specs.Row.{Row}
use Rattle.ts_regular.specs.RegularPage.{regular_room, elements_from}
use Rattle.ts_regular.specs.Places.{OffsetPage, all_in, IsOn, AreOn}
use Rattle.ts_regular.proofs.OffsetLemmas.{AreMore}
use Rattle.ts_regular.proofs.PlaceLemmas.{pages_more}
use Rattle.ts_entry.specs.Entry.{Entry}
use Rattle.ts_clip.specs.Numbered.{numbered, seen_at}
use Rattle.ts_clip.proofs.GridStartLemmas.{few_taken}
use Rattle.ts_clip.proofs.GridNumberLemmas.{numbered_parts, numbered_same}
use Rattle.ts_clip.proofs.GridSeenLemmas.{none_behind, seen_first, seen_second}

-- the page of an index, before those behind it
pub record PageAt (slot : ℕ) (columns : List Column) (pages : ℕ → List ℕ) (place : Place) (i : ℕ) (ps : List OffsetPage) : Type 0 where
  pub page : OffsetPage
  pub next : drop i ps ≡ page ∷ drop (suc i) ps
  pub on : IsOn slot columns (pages place.page) place page
  pub behind : (n : ℕ) → n < page.0 + regular_room columns → AreMore n (all_in (drop (suc i) ps))

pub page_at : (slot : ℕ) (columns : List Column) (pages : ℕ → List ℕ) (places : List Place) (i : ℕ) (d : Place) (ps : List OffsetPage) → IsRising places → AreOn slot columns pages places ps → i < length places → PageAt slot columns pages (get_or places i d) i ps
page_at slot columns pages [] i d ps rising on within = absurd (omega (arith, within))
page_at slot columns pages (q ∷ places) i d [] rising on within = absurd on
page_at slot columns pages (q ∷ places) zero d (p ∷ ps) rising on within = record {
  page = p;
  next = refl;
  on = on.0;
  behind = λ n below. pages_more slot columns pages n p.0 places ps on.0.bytes.whole below (subst (λ (z : ℤ). AreAbove z places) on.0.at rising.0) on.1;
}
page_at slot columns pages (q ∷ places) (suc i) d (p ∷ ps) rising on within =
    let rest = page_at slot columns pages places i d ps rising.1 on.1 (omega (arith, within)) in
    record { page = rest.page; next = rest.next; on = rest.on; behind = rest.behind }

-- the page of an index, in whatever order the places are
pub page_of : (slot : ℕ) (columns : List Column) (pages : ℕ → List ℕ) (places : List Place) (i : ℕ) (d : Place) (ps : List OffsetPage) → AreOn slot columns pages places ps → i < length places
    → (page : OffsetPage) × (drop i ps ≡ page ∷ drop (suc i) ps) × IsOn slot columns (pages (get_or places i d).page) (get_or places i d) page
page_of slot columns pages [] i d ps on within = absurd (omega (arith, within))
page_of slot columns pages (q ∷ places) i d [] on within = absurd on
page_of slot columns pages (q ∷ places) zero d (p ∷ ps) on within = (p, refl, on.0)
page_of slot columns pages (q ∷ places) (suc i) d (p ∷ ps) on within = page_of slot columns pages places i d ps on.1 (omega (arith, within))

-- the pages are as many as the places
pub pages_count : (slot : ℕ) (columns : List Column) (pages : ℕ → List ℕ) (places : List Place) (ps : List OffsetPage) → AreOn slot columns pages places ps → length ps ≡ length places
pages_count slot columns pages [] [] on = refl
pages_count slot columns pages [] (p ∷ ps) on = absurd on
pages_count slot columns pages (q ∷ places) [] on = absurd on
pages_count slot columns pages (q ∷ places) (p ∷ ps) on = ap suc (pages_count slot columns pages places ps on.1)

-- of the offsets of a range from one on, those that have an element have it on the pages from an index on
abbrev pub AreAhead : List OffsetPage → ℕ → ℕ → ℕ → Type 0
AreAhead ps i at upper = (n : ℕ) → at ≤ n → n < upper → seen_at (all_in ps) n ≡ seen_at (all_in (drop i ps)) n

-- from the page of an index to the next
module _ (slot : ℕ) (columns : List Column) (pages : ℕ → List ℕ) (place : Place) (i : ℕ) (ps : List OffsetPage) (here : PageAt slot columns pages place i ps) (at end upper : ℕ) (low : at ≤ end) (high : end ≤ upper) (ahead : AreAhead ps i at upper) where
  pub next_ahead : ((n : ℕ) → end ≤ n → n < upper → seen_at (elements_from here.page.0 here.page.1) n ≡ None) → AreAhead ps (i + 1) end upper
  next_ahead none n above below =
      ahead n (omega (arith, low, above)) below ∙ ap (λ (l : List OffsetPage). seen_at (all_in l) n) here.next
      ∙ seen_second n (elements_from here.page.0 here.page.1) (all_in (drop (suc i) ps)) (none n above below)
      ∙ ap (λ (k : ℕ). seen_at (all_in (drop k ps)) n) (let one : suc i ≡ i + 1 = omega arith in one)

  here_same : (n : ℕ) → at ≤ n → n < end → end ≤ here.page.0 + regular_room columns → seen_at (all_in ps) n ≡ seen_at (elements_from here.page.0 here.page.1) n
  here_same n above below own =
      ahead n above (omega (arith, below, high)) ∙ ap (λ (l : List OffsetPage). seen_at (all_in l) n) here.next
      ∙ seen_first n (elements_from here.page.0 here.page.1) (all_in (drop (suc i) ps)) (none_behind n (all_in (drop (suc i) ps)) (here.behind n (omega (arith, below, own))))

  pub next_entries : (lower : ℕ) (starts : List ℤ) → lower ≤ at → (at < end → end ≤ here.page.0 + regular_room columns)
      → numbered (seen_at (all_in ps)) lower (take (at - lower) starts) ++ numbered (seen_at (elements_from here.page.0 here.page.1)) at (take (end - at) (drop (at - lower) starts))
      ≡ numbered (seen_at (all_in ps)) lower (take (end - lower) starts)
  next_entries lower starts from own =
      let f : ℕ → Option Row = seen_at (all_in ps) in
      let others : List ℤ = take (end - at) (drop (at - lower) starts) in
      let few = few_taken (end - at) (drop (at - lower) starts) in
      ap (λ (l : List Entry). numbered f lower (take (at - lower) starts) ++ l)
      (sym (numbered_same f (seen_at (elements_from here.page.0 here.page.1)) at at others (λ j within.
      here_same (at + j) (omega arith) (omega (arith, few, within)) (own (omega (arith, few, within))))))
      ∙ sym (numbered_parts f lower at (at - lower) (end - at) (end - lower) starts (omega (arith, from)) (omega (arith, from, low)))
