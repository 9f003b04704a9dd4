-- The first element that isn't hidden, by the cells of a page and by the pages from an index on.
use Rattle.std.proofs.Common.{◌≡◌, ℕ, zero, suc, ◌+◌, ◌<◌, not, true, false, Some, None, IsSome, List, [], ◌∷◌, ◌++◌, length, drop, refl, sym, ap, subst, ◌∙◌, arith}
use Rattle.std.specs.List.{slice_get}
use Rattle.std.specs.Option.{option_and_then, option_map}
use Rattle.std.proofs.lemmas.List.Elements.{All-head}
use Rattle.ts_space.specs.declared.place.Place.{Place}
use Rattle.ts_row.specs.declared.kind.Column.{Column}
use Rattle.ts_row.specs.Row.{Row, Element}
use Rattle.ts_offset.specs.Grid.{GridPlan, stamp_of}
use Rattle.ts_regular.specs.RegularPage.{Cell, OffsetElement, elements_from, seen}
use Rattle.ts_regular.specs.Places.{OffsetPage, all_in}
use Rattle.ts_regular.specs.OnePage.{cell_at, is_seen}
use Rattle.ts_sheets.specs.Stamped.{stamped, stamped_one, HaveStarts}
use Rattle.ts_regular_edits.proofs.StampLemmas.{some_start, stamped_cons}
use Rattle.ts_entry.specs.Entry.{first_seen}
use Rattle.ts_clip.specs.Grid.{first_of}
use Rattle.ts_clip.proofs.GridPlaceLemmas.{PageAt}
use Rattle.ts_clip.proofs.GridSeenLemmas.{seen_both}
use Rattle.ts_clip.proofs.GridStampLemmas.{seen_stamped, seen_starts}

seen_no : (e : OffsetElement) (es : List OffsetElement) → not e.1.hidden ≡ false → seen (e ∷ es) ≡ seen es
seen_no e es hidden = rw hidden refl

seen_yes : (e : OffsetElement) (es : List OffsetElement) → not e.1.hidden ≡ true → seen (e ∷ es) ≡ e ∷ seen es
seen_yes e es shown = rw shown refl

-- the first cell with one
pub first_found : (at i n : ℕ) (cells : List Cell) (row : Row) → n ≡ at + i → i < length cells → cell_at cells i ≡ Some row → not row.hidden ≡ true → ((other : ℕ) → other < i → is_seen (cell_at cells other) ≡ false)
    → first_of (elements_from at cells) ≡ Some (n, row)
first_found at i n [] row is within cell shown none = absurd (omega (arith, within))
first_found at zero n (None ∷ cells) row is within cell shown none = absurd (cc)
first_found at zero n (Some own ∷ cells) row is within cell shown none =
    let same : own ≡ row = cc in
    let P : Row → Type 0 = λ r. not r.hidden ≡ true in
    let first : at ≡ n = omega (arith, is) in
    ap (λ (l : List OffsetElement). slice_get l 0) (seen_yes (at, own) (elements_from (at + 1) cells) (subst P (sym same) shown)) ∙ (λ j. Some (first j, same j))
first_found at (suc i) n (None ∷ cells) row is within cell shown none =
    first_found (at + 1) i n cells row (omega (arith, is)) (omega (arith, within)) cell shown (λ other below. none (suc other) (omega (arith, below)))
first_found at (suc i) n (Some own ∷ cells) row is within cell shown none =
    ap (λ (l : List OffsetElement). slice_get l 0) (seen_no (at, own) (elements_from (at + 1) cells) (none 0 (omega arith)))
    ∙ first_found (at + 1) i n cells row (omega (arith, is)) (omega (arith, within)) cell shown (λ other below. none (suc other) (omega (arith, below)))

-- the first of two lists
first_behind : {A : Type 0} (xs ys : List A) → slice_get xs 0 ≡ None → slice_get (xs ++ ys) 0 ≡ slice_get ys 0
first_behind [] ys none = refl
first_behind (x ∷ xs) ys none = absurd (cc)

first_before : {A : Type 0} (xs ys : List A) (e : A) → slice_get xs 0 ≡ Some e → slice_get (xs ++ ys) 0 ≡ Some e
first_before [] ys e first = absurd (cc)
first_before (x ∷ xs) ys e first = first

-- the page of an index, of which those before it have none
module _ (slot : ℕ) (columns : List Column) (pages : ℕ → List ℕ) (place : Place) (i : ℕ) (ps : List OffsetPage) (here : PageAt slot columns pages place i ps) (ahead : first_of (all_in ps) ≡ first_of (all_in (drop i ps))) where
  own : first_of (all_in ps) ≡ slice_get (seen (elements_from here.page.0 here.page.1) ++ seen (all_in (drop (suc i) ps))) 0
  own =
      ahead ∙ ap (λ (l : List OffsetPage). first_of (all_in l)) here.next
      ∙ ap (λ (l : List OffsetElement). slice_get l 0) (seen_both (elements_from here.page.0 here.page.1) (all_in (drop (suc i) ps)))

  pub first_ahead : None ≡ first_of (elements_from here.page.0 here.page.1) → first_of (all_in ps) ≡ first_of (all_in (drop (i + 1) ps))
  first_ahead none =
      own ∙ first_behind (seen (elements_from here.page.0 here.page.1)) (seen (all_in (drop (suc i) ps))) (sym none)
      ∙ ap (λ (k : ℕ). first_of (all_in (drop k ps))) (let more : suc i ≡ i + 1 = omega arith in more)

  pub first_here : (e : OffsetElement) → Some e ≡ first_of (elements_from here.page.0 here.page.1) → Some e ≡ first_of (all_in ps)
  first_here e first = sym (own ∙ first_before (seen (elements_from here.page.0 here.page.1)) (seen (all_in (drop (suc i) ps))) e (sym first))

-- at the start of its offset
first_stamped : (grid : GridPlan) (es : List OffsetElement) → HaveStarts grid es → slice_get (stamped grid es) 0 ≡ option_and_then (stamped_one grid) (slice_get es 0)
first_stamped grid [] starts = refl
first_stamped grid (e ∷ es) starts =
    let t = some_start (stamp_of grid e.0) (All-head (λ (e : OffsetElement). IsSome (stamp_of grid e.0)) e es starts) in
    ap (λ (l : List Element). slice_get l 0) (stamped_cons grid e.0 e.1 t.0 es t.1) ∙ sym (ap (option_map (λ start. (start, e.1))) t.1)

pub first_seen_stamped : (grid : GridPlan) (es : List OffsetElement) → HaveStarts grid es → first_seen (stamped grid es) ≡ option_and_then (stamped_one grid) (slice_get (seen es) 0)
first_seen_stamped grid es starts = ap (λ (l : List Element). slice_get l 0) (sym (seen_stamped grid es starts)) ∙ first_stamped grid (seen es) (seen_starts grid es starts)
