-- The entries that one page has.
use Rattle.std.proofs.Common.{◌≡◌, ℕ, ◌+◌, ◌-◌, ◌<◌, ◌≤◌, max, min, ℤ, Option, Some, None, List, ◌++◌, length, map, take, drop, sym, ◌∙◌, inl, inr, arith}
use Rattle.std.proofs.lemmas.Bool.{cases_lt}
use borrow.Rule.Slice.PartMut.{mid_of}
use Rattle.ts_space.specs.declared.place.Place.{Place}
use Rattle.ts_row.specs.declared.kind.Column.{Column}
use Rattle.ts_row.specs.Row.{Row}
use Rattle.ts_regular.specs.RegularPage.{behind_head, Cell, elements_from}
use Rattle.ts_regular.specs.Places.{OffsetPage, IsOn}
use Rattle.ts_regular.proofs.HeadLemmas.{behind_told, length-page, part_behind}
use Rattle.ts_regular.specs.OnePage.{cell_at}
use Rattle.ts_clip.specs.Numbered.{numbered, seen_at, seen_in}
use Rattle.ts_clip.proofs.GridStartLemmas.{few_taken}
use Rattle.ts_clip.proofs.GridNumberLemmas.{numbered_none, numbered_parts, numbered_same}
use Rattle.ts_clip.proofs.GridSeenLemmas.{cells_before, cells_behind, seen_found}

-- the offset of its first cell, as it was read
pub one_base : (a b : ℕ) (o : Option ℕ) → o ≡ Some a → o ≡ Some b → a ≡ b
one_base a b o first second = let same : ◌≡◌ {A = Option ℕ} (Some a) (Some b) = sym first ∙ second in cc

-- what stands behind its head
pub behind_on : (slot : ℕ) (columns : List Column) (bytes : List ℕ) (place : Place) (p : OffsetPage) → IsOn slot columns bytes place p → mid_of 32 4064 bytes ≡ behind_head columns p.1
behind_on slot columns bytes place p on =
    let fill = on.bytes.fill in
    let behind = behind_told slot columns p.0 p.1 bytes on.bytes in
    part_behind 4064 bytes (length-page columns p.1 bytes fill.each fill.room behind) ∙ behind

-- a page whose first cell has an offset, and the part of a range that it has cells for
module _ (at upper base own room first stop : ℕ) (cells : List Cell) (long : length cells ≡ room) (same : base ≡ own) (first_is : first ≡ max at base) (stop_is : stop ≡ min upper (base + room)) where
  -- none of the others has an element
  pub none_there : 1 ≤ room → stop ≤ first → (n : ℕ) → at ≤ n → n < upper → seen_at (elements_from own cells) n ≡ None
  none_there some turned n low high = elim (cases_lt n own) [
    | inl before ↦ cells_behind own n cells before
    | inr behind ↦ cells_before own n cells (omega (arith, long, same, first_is, stop_is, some, turned, low, high, behind))
  ]

  pub none_left : first < stop → (n : ℕ) → stop ≤ n → n < upper → seen_at (elements_from own cells) n ≡ None
  none_left order n low high = cells_before own n cells (omega (arith, long, same, first_is, stop_is, low, high))

  -- the starts before its first cell, and then those of its cells
  pub page_entries : (starts : List ℤ) → first < stop → map (λ start. (start, None)) (take (first - at) starts) ++ numbered (λ i. seen_in (cell_at cells i)) (first - base) (take (stop - base - (first - base)) (drop (first - at) starts))
      ≡ numbered (seen_at (elements_from own cells)) at (take (stop - at) starts)
  page_entries starts order =
      let f : ℕ → Option Row = seen_at (elements_from own cells) in
      let blanks : List ℤ = take (first - at) starts in
      let others : List ℤ = take (stop - base - (first - base)) (drop (first - at) starts) in
      let few = few_taken (first - at) starts in
      let fewer = few_taken (stop - base - (first - base)) (drop (first - at) starts) in
      let before : map (λ start. (start, None)) blanks ≡ numbered f at blanks =
      numbered_none f at blanks (λ i within. cells_behind own (at + i) cells (omega (arith, same, first_is, few, within))) in
      let here : numbered (λ i. seen_in (cell_at cells i)) (first - base) others ≡ numbered f first others =
      numbered_same (λ i. seen_in (cell_at cells i)) f (first - base) first others
      (λ i within. sym (seen_found own (first - base + i) (first + i) cells (omega (arith, same, first_is)) (omega (arith, long, first_is, stop_is, fewer, within, order)))) in
      (λ j. before j ++ here j)
      ∙ sym (numbered_parts f at first (first - at) (stop - base - (first - base)) (stop - at) starts (omega (arith, first_is)) (omega (arith, first_is, order)))
