-- The elements of a range of offsets among the entries of cells and of pages.
use Rattle.std.proofs.Common.{◌≡◌, ℕ, zero, suc, ◌+◌, ◌-◌, ◌<◌, ◌≤◌, max, min, true, false, ℤ, pos, Option, Some, None, List, [], ◌∷◌, ◌++◌, length, take, drop, get_or, refl, sym, ap, ◌∙◌, inl, inr, arith, append-nil}
use Rattle.std.specs.List.{cons_option, slice_get}
use Rattle.std.specs.Option.{option_map}
use Rattle.std.proofs.lemmas.Bool.{cases_lt}
use Rattle.std.proofs.lemmas.Bool.Decides.{nat_tests}
use Rattle.std.proofs.lemmas.List.{drop_all, drop_more}
use Rattle.std.proofs.lemmas.List.Elements.{filter_map-append}
use Rattle.std.proofs.lemmas.Option.{slice_get-get_or, slice_get_past}
use Rattle.std.proofs.Math.Seq.{take-nil}
use Rattle.ts_row.specs.Row.{Row, Element}
use Rattle.ts_row.specs.Row as elements
use Rattle.ts_calendar.specs.Calendars.{IsLaid}
use Rattle.ts_offset.specs.Grid.{GridPlan, starts_of, stamp_of}
use Rattle.ts_regular.specs.RegularPage.{Cell, OffsetElement, elements_from, seen}
use Rattle.ts_space.specs.declared.place.Place.{Place}
use Rattle.ts_row.specs.declared.kind.Column.{Column}
use Rattle.ts_regular.specs.Places.{OffsetPage, all_in}
use Rattle.ts_regular.specs.Range.{is_between, within}
use Rattle.ts_regular.specs.OnePage.{cell_at}
use Rattle.ts_regular.proofs.PlaceLemmas.{all_both}
use Rattle.ts_sheets.specs.Stamped.{within_range, stamped, stamped_one, HaveStarts}
use Rattle.ts_regular_edits.specs.Range.{AreOffsetsOf}
use Rattle.ts_regular_edits.proofs.RangeLemmas.{within_stamped}
use Rattle.ts_regular_edits.proofs.StampLemmas.{stamped_cons}
use Rattle.ts_entry.specs.Entry.{Entry, element_of, elements_of}
use Rattle.ts_clip.specs.Numbered.{numbered, seen_in}
use Rattle.ts_clip.proofs.GridStartLemmas.{take_parts}
use Rattle.ts_clip.proofs.GridPlaceLemmas.{PageAt}
use Rattle.ts_clip.proofs.GridWithinLemmas.{between_before, between_in, none_here, own_here, seen_within, within_both, within_cells, within_none}
use Rattle.ts_clip.proofs.GridStampLemmas.{seen_stamped, seen_starts}
use Rattle.ts_clip.proofs.GridNumberLemmas.{numbered_same}
use Rattle.ts_clip.proofs.GridSeenLemmas.{by_hidden, row_hidden, row_shown, seen_both}

-- a start that is there, or none
data Started (starts : List ℤ) (n m : ℕ) : Type 0 where
  there : (s : ℤ) → slice_get starts n ≡ Some s → take (suc m) (drop n starts) ≡ s ∷ take m (drop (n + 1) starts) → Started starts n m
  over : slice_get starts n ≡ None → take (suc m) (drop n starts) ≡ [] → take m (drop (n + 1) starts) ≡ [] → Started starts n m

started : (starts : List ℤ) (n m : ℕ) → Started starts n m
started starts n m = elim (cases_lt n (length starts)) [
  | inl within ↦ there (get_or starts n (pos 0)) (slice_get-get_or starts n (pos 0) within) (ap (take (suc m)) (drop_more starts n (pos 0) within))
  | inr past ↦ over (slice_get_past starts n past) (ap (take (suc m)) (drop_all n starts past)) (ap (take m) (drop_all (n + 1) starts (omega (arith, past))) ∙ take-nil m)
]

-- the element of the first cell of a range, which isn't hidden or is, where the cell's offset has a start or none
module _ (grid : GridPlan) (base from to : ℕ) (row : Row) (es : List OffsetElement) (tail : List Element) (first : from ≡ base) (low : base < to) (rest : tail ≡ stamped grid (seen (within from to es))) where
  own : within from to ((base, row) ∷ es) ≡ (base, row) ∷ within from to es
  own = let test = between_in from to base (omega (arith, first)) low in rw test refl

  hidden_gone : row.hidden ≡ true → tail ≡ stamped grid (seen (within from to ((base, row) ∷ es)))
  hidden_gone hidden = rest ∙ ap (stamped grid) (gone ∙ ap seen (sym own))
    where
      gone : seen (within from to es) ≡ seen ((base, row) ∷ within from to es)
      gone = rw hidden refl

  shown_there : row.hidden ≡ false → seen (within from to ((base, row) ∷ es)) ≡ (base, row) ∷ seen (within from to es)
  shown_there shown = ap seen own ∙ kept
    where
      kept : seen ((base, row) ∷ within from to es) ≡ (base, row) ∷ seen (within from to es)
      kept = rw shown refl

  first_there : (s : ℤ) → stamp_of grid base ≡ Some s → cons_option (element_of (s, seen_in (Some row))) tail ≡ stamped grid (seen (within from to ((base, row) ∷ es)))
  first_there s is = by_hidden row.hidden (cons_option (element_of (s, seen_in (Some row))) tail ≡ stamped grid (seen (within from to ((base, row) ∷ es))))
      (λ hidden. ap (λ (o : Option Row). cons_option (element_of (s, o)) tail) (row_hidden row hidden) ∙ hidden_gone hidden)
      (λ shown. ap (λ (o : Option Row). cons_option (element_of (s, o)) tail) (row_shown row shown) ∙ ap (λ (l : List Element). (s, row) ∷ l) rest
      ∙ sym (stamped_cons grid base row s (seen (within from to es)) is) ∙ ap (stamped grid) (sym (shown_there shown)))

  first_over : stamp_of grid base ≡ None → tail ≡ stamped grid (seen (within from to ((base, row) ∷ es)))
  first_over none = by_hidden row.hidden (tail ≡ stamped grid (seen (within from to ((base, row) ∷ es)))) hidden_gone
      (λ shown. rest ∙ ap (λ (o : Option ℤ). cons_option (option_map (λ start. (start, row)) o) (stamped grid (seen (within from to es)))) (sym none)
      ∙ ap (stamped grid) (sym (shown_there shown)))

-- the entries of cells have the elements of these cells
module _ (grid : GridPlan) where
  later : (c : Cell) (cells : List Cell) (k : ℕ) (starts : List ℤ) → numbered (λ i. seen_in (cell_at (c ∷ cells) i)) (suc k) starts ≡ numbered (λ i. seen_in (cell_at cells i)) k starts
  later c cells k starts =
      numbered_same (λ i. seen_in (cell_at (c ∷ cells) i)) (λ i. seen_in (cell_at cells i)) (suc k) k starts
      (λ i within. ap (λ (n : ℕ). seen_in (cell_at (c ∷ cells) n)) (let more : suc k + i ≡ suc (k + i) = omega arith in more))

  pub page_elements : (base k m from to : ℕ) (cells : List Cell) → from ≡ base + k → to ≡ from + m → k + m ≤ length cells
      → elements_of (numbered (λ i. seen_in (cell_at cells i)) k (take m (drop from (starts_of grid)))) ≡ stamped grid (seen (within from to (elements_from base cells)))
  page_elements base k zero from to cells first last small =
      sym (ap (λ (l : List OffsetElement). stamped grid (seen l)) (within_none from to (elements_from base cells) (omega (arith, last))))
  page_elements base k (suc m) from to [] first last small = absurd (omega (arith, small))
  page_elements base (suc k) (suc m) from to (None ∷ cells) first last small =
      ap elements_of (later None cells k (take (suc m) (drop from (starts_of grid))))
      ∙ page_elements (base + 1) k (suc m) from to cells (omega (arith, first)) last (omega (arith, small))
  page_elements base (suc k) (suc m) from to (Some row ∷ cells) first last small =
      let out = between_before from to base (omega (arith, first)) in
      let gone : within from to ((base, row) ∷ elements_from (base + 1) cells) ≡ within from to (elements_from (base + 1) cells) = rw out refl in
      ap elements_of (later (Some row) cells k (take (suc m) (drop from (starts_of grid))))
      ∙ page_elements (base + 1) k (suc m) from to cells (omega (arith, first)) last (omega (arith, small))
      ∙ ap (λ (l : List OffsetElement). stamped grid (seen l)) (sym gone)
  page_elements base zero (suc m) from to (c ∷ cells) first last small =
      by_start c (started (starts_of grid) from m)
      (page_elements (base + 1) zero m (from + 1) to cells (omega (arith, first)) (omega (arith, last)) (omega (arith, small))
      ∙ ap (λ (l : List OffsetElement). stamped grid (seen l)) (within_cells (from + 1) to from to (base + 1) cells (λ n above below. agree n (omega (arith, first, above)))))
    where
      agree : (n : ℕ) → from < n → is_between (from + 1) to n ≡ is_between from to n
      agree n above = grind (arith, nat_tests)

      base_is : from ≡ base
      base_is = omega (arith, first)

      by_start : (c : Cell) → Started (starts_of grid) from m → elements_of (numbered (λ i. seen_in (cell_at cells i)) 0 (take m (drop (from + 1) (starts_of grid)))) ≡ stamped grid (seen (within from to (elements_from (base + 1) cells)))
          → elements_of (numbered (λ i. seen_in (cell_at (c ∷ cells) i)) 0 (take (suc m) (drop from (starts_of grid)))) ≡ stamped grid (seen (within from to (elements_from base (c ∷ cells))))
      by_start None (there s is next) rest =
          ap (λ (l : List ℤ). elements_of (numbered (λ i. seen_in (cell_at (None ∷ cells) i)) 0 l)) next
          ∙ ap elements_of (later None cells 0 (take m (drop (from + 1) (starts_of grid)))) ∙ rest
      by_start None (over none next others) rest =
          ap (λ (l : List ℤ). elements_of (numbered (λ i. seen_in (cell_at (None ∷ cells) i)) 0 l)) next
          ∙ sym (ap (λ (l : List ℤ). elements_of (numbered (λ i. seen_in (cell_at cells i)) 0 l)) others) ∙ rest
      by_start (Some row) (there s is next) rest =
          let es = elements_from (base + 1) cells in
          ap (λ (l : List ℤ). elements_of (numbered (λ i. seen_in (cell_at (Some row ∷ cells) i)) 0 l)) next
          ∙ ap (λ (l : List Entry). cons_option (element_of (s, seen_in (Some row))) (elements_of l)) (later (Some row) cells 0 (take m (drop (from + 1) (starts_of grid))))
          ∙ first_there grid base from to row es _ base_is (omega (arith, first, last)) rest s (ap (stamp_of grid) (sym base_is) ∙ is)
      by_start (Some row) (over none next others) rest =
          let es = elements_from (base + 1) cells in
          ap (λ (l : List ℤ). elements_of (numbered (λ i. seen_in (cell_at (Some row ∷ cells) i)) 0 l)) next
          ∙ first_over grid base from to row es [] base_is (omega (arith, first, last))
          (sym (ap (λ (l : List ℤ). elements_of (numbered (λ i. seen_in (cell_at cells i)) 0 l)) others) ∙ rest) (ap (stamp_of grid) (sym base_is) ∙ none)

  -- the elements of a range that a page has cells for
  module _ (lower upper base own_base room from to : ℕ) (cells : List Cell) (long : length cells ≡ room) (same : base ≡ own_base) (from_is : from ≡ max lower base) (to_is : to ≡ min upper (base + room)) where
    pub page_none : to ≤ from → stamped grid (seen (within lower upper (elements_from own_base cells))) ≡ []
    page_none turned = ap (λ (l : List OffsetElement). stamped grid (seen l)) (none_here lower upper base own_base room from to cells long same from_is to_is turned)

    pub page_taken : from < to → elements_of (numbered (λ i. seen_in (cell_at cells i)) (from - base) (take (to - base - (from - base)) (drop from (starts_of grid)))) ≡ stamped grid (seen (within lower upper (elements_from own_base cells)))
    page_taken order =
        page_elements own_base (from - base) (to - base - (from - base)) from to cells (omega (arith, same, from_is)) (omega (arith, from_is, order)) (omega (arith, long, from_is, to_is, order))
        ∙ ap (λ (l : List OffsetElement). stamped grid (seen l)) (own_here lower upper base own_base room from to cells long same from_is to_is order)

-- the elements of pages one after the other
pub taken_both : (grid : GridPlan) (lower upper : ℕ) (xs ys : List OffsetElement) → stamped grid (seen (within lower upper (xs ++ ys))) ≡ stamped grid (seen (within lower upper xs)) ++ stamped grid (seen (within lower upper ys))
taken_both grid lower upper xs ys =
    ap (λ (l : List OffsetElement). stamped grid (seen l)) (within_both lower upper xs ys) ∙ ap (stamped grid) (seen_both (within lower upper xs) (within lower upper ys))
    ∙ filter_map-append (stamped_one grid) (seen (within lower upper xs)) (seen (within lower upper ys))

pub elements_both : (entries others : List Entry) → elements_of (entries ++ others) ≡ elements_of entries ++ elements_of others
elements_both entries others = filter_map-append element_of entries others

-- from the pages before an index to those up to it
pub next_taken : (grid : GridPlan) (slot : ℕ) (columns : List Column) (pages : ℕ → List ℕ) (place : Place) (lower upper i : ℕ) (ps : List OffsetPage) (here : PageAt slot columns pages place i ps)
    → stamped grid (seen (within lower upper (all_in (take (i + 1) ps)))) ≡ stamped grid (seen (within lower upper (all_in (take i ps)))) ++ stamped grid (seen (within lower upper (elements_from here.page.0 here.page.1)))
next_taken grid slot columns pages place lower upper i ps here =
    ap (λ (l : List OffsetPage). stamped grid (seen (within lower upper (all_in l)))) (take_parts i 1 (i + 1) ps refl ∙ ap (λ (l : List OffsetPage). take i ps ++ take 1 l) here.next)
    ∙ ap (λ (l : List OffsetElement). stamped grid (seen (within lower upper l))) (all_both (take i ps) (here.page ∷ []) ∙ ap (λ (l : List OffsetElement). all_in (take i ps) ++ l) (append-nil (elements_from here.page.0 here.page.1)))
    ∙ taken_both grid lower upper (all_in (take i ps)) (elements_from here.page.0 here.page.1)

-- the elements of a range of stamps
pub range_stamped : (grid : GridPlan) → IsLaid grid.calendar → (from to : ℤ) (lower upper : ℕ) → AreOffsetsOf grid from to lower upper → (es : List OffsetElement) → HaveStarts grid es
    → stamped grid (seen (within lower upper es)) ≡ within_range from to (elements.seen (stamped grid es))
range_stamped grid laid from to lower upper range es starts =
    ap (stamped grid) (seen_within lower upper es) ∙ within_stamped grid laid from to lower upper range (seen es) (seen_starts grid es starts)
    ∙ ap (within_range from to) (seen_stamped grid es starts)
