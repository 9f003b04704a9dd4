-- A run of cells behind the head of a page with the stamps of their elements, as it is handed on.
use Rattle.std.proofs.Common.{◌≡◌, ℕ, ◌+◌, ℤ, IsSome, Option, Some, None, List, [], ◌∷◌, ◌++◌, length, map, take, drop, refl, sym, ap, subst, ◌∙◌, arith}
use Rattle.std.specs.Prelude.{IfSome, option_map}
use Rattle.std.specs.List.{cons_option}
use Rattle.std.specs.Borrow.{Bor}
use Rattle.std.proofs.lemmas.List.{take_at, drop_at}
use Rattle.std.proofs.lemmas.List.Concat.{flat_map-cons}
use Rattle.std.proofs.lemmas.List.Elements.{All-head, All-tail}
use Rattle.ts_row.specs.declared.kind.Column.{Column}
use Rattle.ts_row.specs.Row.{Row, width_of, Element}
use Rattle.ts_cells.specs.IrregularPage.{cell_bytes as element_bytes, stamp_bytes, AreElements, cells_bytes as element_cells}
use Rattle.ts_cells.proofs.PageLemmas.{length-cell_bytes}
use Rattle.ts_calendar.specs.Calendars.{IsLaid}
use Rattle.ts_offset.specs.Grid.{GridPlan, stamp_of}
use Rattle.ts_regular.specs.RegularPage.{Cell, OffsetElement, elements_from}
use Rattle.ts_sheets.specs.Stamped.{stamped, stamped_one, HaveStarts}
use Rattle.ts_regular_edits.proofs.StampLemmas.{some_start}
use Rattle.ts_entry.specs.declared.stamps.Stamps.TheVariants.{InCells, OnGrid}
use Rattle.ts_entry.specs.Stamps.{HasStamp}
use Rattle.ts_entry.specs.Rows.{AreStamped, elements_in, row_if_any}
use Rattle.ts_clip.proofs.RowRunLemmas.{found_of}

-- the cells of elements
abbrev pub held_of : List Element → List (Option Element)
held_of es = map (λ e. Some e) es

pub elements_held : (es : List Element) → elements_in (held_of es) ≡ es
elements_held [] = refl
elements_held (e ∷ es) = ap (λ (l : List Element). e ∷ l) (elements_held es)

pub rows_held : (es : List Element) → found_of es ≡ map row_if_any (held_of es)
rows_held [] = refl
rows_held (e ∷ es) = ap (λ (l : List (Option Row)). Some e.1 ∷ l) (rows_held es)

stamp_in : (columns : List Column) (e : Element) → take 8 (drop 1 (element_bytes columns e)) ≡ stamp_bytes e.0
stamp_in columns e = refl

-- each cell has its stamp
pub elements_stamped : (columns : List Column) (size number : ℕ) (es : List Element) → size ≡ 9 + width_of columns → AreElements columns es
    → AreStamped InCells size number (element_cells columns es) (held_of es)
elements_stamped columns size number [] is are = tt
elements_stamped columns size number (e ∷ es) is are =
    let bytes = element_bytes columns e in
    let rest = element_cells columns es in
    let long : length bytes ≡ size = omega (arith, length-cell_bytes columns e are.0, is) in
    let parts = flat_map-cons (element_bytes columns) e es in
    let here : HasStamp InCells number (take size (bytes ++ rest)) e.0 = subst (λ (l : List ℕ). HasStamp InCells number l e.0)
    (sym (take_at bytes rest size long)) (are.0.stamp, stamp_in columns e) in
    let there : AreStamped InCells size (number + 1) (drop size (bytes ++ rest)) (held_of es) =
    subst (λ (l : List ℕ). AreStamped InCells size (number + 1) l (held_of es))
    (sym (drop_at bytes rest size long)) (elements_stamped columns size (number + 1) es is are.1) in
    subst (λ (l : List ℕ). AreStamped InCells size number l (held_of (e ∷ es))) (sym parts) (here, there)

-- the cells on a grid, of which the first has this offset
abbrev pub held_from : GridPlan → ℕ → List Cell → List (Option Element)
held_from grid offset [] = []
held_from grid offset (None ∷ cells) = None ∷ held_from grid (offset + 1) cells
held_from grid offset (Some row ∷ cells) = stamped_one grid (offset, row) ∷ held_from grid (offset + 1) cells

pub elements_on : (grid : GridPlan) (offset : ℕ) (cells : List Cell)
    → elements_in (held_from grid offset cells) ≡ stamped grid (elements_from offset cells)
elements_on grid offset [] = refl
elements_on grid offset (None ∷ cells) = elements_on grid (offset + 1) cells
elements_on grid offset (Some row ∷ cells) = ap (cons_option (stamped_one grid (offset, row))) (elements_on grid (offset + 1) cells)

pub rows_on : (grid : GridPlan) (offset : ℕ) (cells : List Cell) → HaveStarts grid (elements_from offset cells)
    → cells ≡ map row_if_any (held_from grid offset cells)
rows_on grid offset [] starts = refl
rows_on grid offset (None ∷ cells) starts = ap (λ (l : List Cell). None ∷ l) (rows_on grid (offset + 1) cells starts)
rows_on grid offset (Some row ∷ cells) starts =
    let e : OffsetElement = (offset, row) in
    let es = elements_from (offset + 1) cells in
    let t = some_start (stamp_of grid offset) (All-head (λ (e : OffsetElement). IsSome (stamp_of grid e.0)) e es starts) in
    let rest = rows_on grid (offset + 1) cells (All-tail (λ (e : OffsetElement). IsSome (stamp_of grid e.0)) e es starts) in
    let first : Some row ≡ row_if_any (stamped_one grid (offset, row)) = sym (ap (λ o. row_if_any (option_map (λ start. (start, row)) o)) t.1) in
    λ j. first j ∷ rest j

pub cells_stamped : (grid : Bor GridPlan) → IsLaid grid.now.calendar → (first size number offset : ℕ) (bytes : List ℕ) (cells : List Cell) → offset ≡ first + number
    → AreStamped (OnGrid grid first) size number bytes (held_from grid.now offset cells)
cells_stamped grid laid first size number offset bytes [] is = tt
cells_stamped grid laid first size number offset bytes (None ∷ cells) is =
    (tt, cells_stamped grid laid first size (number + 1) (offset + 1) (drop size bytes) cells (omega (arith, is)))
cells_stamped grid laid first size number offset bytes (Some row ∷ cells) is = (
  by (stamp_of grid.now offset) refl,
  cells_stamped grid laid first size (number + 1) (offset + 1) (drop size bytes) cells (omega (arith, is)),
)
  where
    by : (o : Option ℤ) → stamp_of grid.now offset ≡ o
        → IfSome (option_map (λ start. (start, row)) o) (λ (e : Element). HasStamp (OnGrid grid first) number (take size bytes) e.0)
    by None none = tt
    by (Some t) there = (laid, ap (stamp_of grid.now) (sym is) ∙ there)
