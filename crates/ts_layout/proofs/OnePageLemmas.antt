-- A page holds one thing: it is free, or has one sheet of one series.
use Rattle.std.proofs.Common.{◌≡◌, ℕ, pos, ◌*◌, Option, Some, None, List, [], ◌∷◌, ◌++◌, length, take, drop, get_or, refl, sym, ap, ◌∙◌, arith}
use Rattle.std.proofs.lemmas.List.Concat.{flat_map-cons}
use Rattle.std.proofs.Math.Seq.{take-append_seam, drop-append_seam}
use Rattle.ts_row.specs.Encoding.{row_bytes}
use Rattle.ts_row.specs.Decoding.{row_in}
use Rattle.ts_row.specs.declared.kind.Column.{Column}
use Rattle.ts_row.proofs.RowBytesLemmas.{valid, row_in-row_bytes}
use Rattle.ts_page.specs.Pages.{head_of, IsFreePage}
use Rattle.ts_page.specs.declared.page.Head.{Head}
use Rattle.ts_page.specs.declared.page.Head.TheVariants as heads
use Rattle.ts_cells.specs.IrregularPage.{Element, cell_size, IsIrregularPage, cells_bytes, behind_head, first_stamp}
use Rattle.ts_cells.proofs.HeadLemmas.{irregular_behind, front_cells}
use Rattle.ts_cells.proofs.PageLemmas.{same_cells}
use Rattle.ts_regular.specs.RegularPage.{Cell, FitsCell, regular_room, cell_size as grid_cell_size, cell_bytes as grid_cell_bytes, elements_from, AreCells, filled_count, IsRegularPage, cells_bytes as grid_cells_bytes, behind_head as behind_grid_head}
use Rattle.ts_regular.proofs.BytesLemmas.{length-cell}
use Rattle.ts_regular.proofs.HeadLemmas.{head_told, behind_told, front_cells as front_grid_cells}
use Rattle.ts_sheets.specs.Stamped.{stamped}
use Rattle.ts_offset.specs.Grid.{GridPlan}
use Rattle.ts_offset.specs.declared.shape.Shape.{Shape}
use Rattle.ts_offset.specs.declared.shape.Shape.TheVariants.{Irregular, Regular}
use Rattle.ts_layout.specs.Sheets.{Sheet, HoldsSheet, HoldsGridSheet}
use Rattle.ts_layout.proofs.HeadLemmas.{head_is, head_free}
use Rattle.ts_layout.proofs.OptionLemmas.{none≢some, one_of}

-- the series that a head tells, if it tells one
abbrev pub slot_in : Option Head → Option ℕ
slot_in None = None
slot_in (Some heads.Free) = None
slot_in (Some (heads.Regular slot count base)) = Some slot
slot_in (Some (heads.Irregular slot count)) = Some slot

pub slot_told : (shape : Shape) (slot : ℕ) (columns : List Column) (sheet : Sheet) (page : List ℕ) → HoldsSheet shape slot columns sheet page → slot_in (head_of page) ≡ Some slot
slot_told Irregular slot columns sheet page is = ap slot_in (head_is slot columns sheet.1 page is.0)
slot_told (Regular grid) slot columns sheet page is = ap slot_in (head_told slot columns is.base is.cells page is.bytes)

-- a free page tells none, so it has no sheet
pub free_or_sheet : (shape : Shape) (slot : ℕ) (columns : List Column) (sheet : Sheet) (page : List ℕ) → IsFreePage page → HoldsSheet shape slot columns sheet page → ⊥
free_or_sheet shape slot columns sheet page free is = none≢some (slot_in (head_of page)) slot (ap slot_in (head_free page free)) (slot_told shape slot columns sheet page is)

-- what the head of a page tells of a series, it tells of no other
irregulars : (o : Option Head) (s n t m : ℕ) → o ≡ Some (heads.Irregular s n) → o ≡ Some (heads.Irregular t m) → n ≡ m
irregulars o s n t m first second = cc

regulars : (o : Option Head) (s n b t m c : ℕ) → o ≡ Some (heads.Regular s n b) → o ≡ Some (heads.Regular t m c) → b ≡ c
regulars o s n b t m c first second = cc

-- a page of an irregular series has one list of elements, and so begins at one stamp
irregular_elements : (slot : ℕ) (columns : List Column) (es fs : List Element) (page : List ℕ) → valid columns → IsIrregularPage slot columns es page → IsIrregularPage slot columns fs page → es ≡ fs
irregular_elements slot columns es fs page kinds first second =
    let long : length es ≡ length fs = irregulars (head_of page) slot (length es) slot (length fs) (head_is slot columns es page first) (head_is slot columns fs page second) in
    let behind : behind_head columns es ≡ behind_head columns fs =
    sym (irregular_behind slot columns es) ∙ ap (drop 32) (sym first.bytes ∙ second.bytes) ∙ irregular_behind slot columns fs in
    let cells : cells_bytes columns es ≡ cells_bytes columns fs =
    sym (front_cells columns es (length fs) first.fill.elements.each long) ∙ ap (take (cell_size columns * length fs)) behind ∙ front_cells columns fs (length fs) second.fill.elements.each refl in
    same_cells columns es fs kinds first.fill.elements.each second.fill.elements.each long cells

irregular_sheet : (slot : ℕ) (columns : List Column) (a b : Sheet) (page : List ℕ) → valid columns → HoldsSheet Irregular slot columns a page → HoldsSheet Irregular slot columns b page → a ≡ b
irregular_sheet slot columns a b page kinds first second =
    let elements : a.1 ≡ b.1 = irregular_elements slot columns a.1 b.1 page kinds first.0 second.0 in
    let begins : a.0 ≡ b.0 = one_of (first_stamp b.1) a.0 b.0 (ap first_stamp (sym elements) ∙ first.1) second.1 in
    λ i. (begins i, elements i)

-- cells of a grid with the same bytes are the same
one_cell : (columns : List Column) (a b : Cell) → valid columns → FitsCell columns a → FitsCell columns b → grid_cell_bytes columns a ≡ grid_cell_bytes columns b → a ≡ b
one_cell columns None None kinds fit fit' same = refl
one_cell columns None (Some row) kinds fit fit' same = absurd (omega (arith, ap (λ (l : List ℕ). get_or l 0 0) same))
one_cell columns (Some row) None kinds fit fit' same = absurd (omega (arith, ap (λ (l : List ℕ). get_or l 0 0) same))
one_cell columns (Some a) (Some b) kinds fit fit' same =
    let rows : row_bytes columns a ≡ row_bytes columns b = ap (λ (l : List ℕ). drop 1 l) same in
    sym (row_in-row_bytes columns a kinds fit) ∙ ap (row_in columns) rows ∙ row_in-row_bytes columns b kinds fit'

one_cells : (columns : List Column) (xs ys : List Cell) → valid columns → AreCells columns xs → AreCells columns ys → length xs ≡ length ys → grid_cells_bytes columns xs ≡ grid_cells_bytes columns ys → xs ≡ ys
one_cells columns [] [] kinds are are' long same = refl
one_cells columns [] (y ∷ ys) kinds are are' long same = absurd (omega arith)
one_cells columns (x ∷ xs) [] kinds are are' long same = absurd (omega arith)
one_cells columns (x ∷ xs) (y ∷ ys) kinds are are' long same =
    let split : grid_cell_bytes columns x ++ grid_cells_bytes columns xs ≡ grid_cell_bytes columns y ++ grid_cells_bytes columns ys =
    sym (flat_map-cons (grid_cell_bytes columns) x xs) ∙ same ∙ flat_map-cons (grid_cell_bytes columns) y ys in
    let sizes : length (grid_cell_bytes columns x) ≡ length (grid_cell_bytes columns y) = length-cell columns x are.0 ∙ sym (length-cell columns y are'.0) in
    let first : grid_cell_bytes columns x ≡ grid_cell_bytes columns y =
    sym (take-append_seam (grid_cell_bytes columns x) (grid_cells_bytes columns xs)) ∙ (λ j. take (sizes j) (split j)) ∙ take-append_seam (grid_cell_bytes columns y) (grid_cells_bytes columns ys) in
    let rest : grid_cells_bytes columns xs ≡ grid_cells_bytes columns ys =
    sym (drop-append_seam (grid_cell_bytes columns x) (grid_cells_bytes columns xs)) ∙ (λ j. drop (sizes j) (split j)) ∙ drop-append_seam (grid_cell_bytes columns y) (grid_cells_bytes columns ys) in
    let here : x ≡ y = one_cell columns x y kinds are.0 are'.0 first in
    let others : xs ≡ ys = one_cells columns xs ys kinds are.1 are'.1 (omega arith) rest in
    λ j. here j ∷ others j

-- a page on a grid begins at one offset, and has one list of cells
pub one_grid_page : (slot t : ℕ) (columns : List Column) (base from : ℕ) (xs ys : List Cell) (page : List ℕ) → valid columns → IsRegularPage slot columns base xs page → IsRegularPage t columns from ys page → (base ≡ from) × (xs ≡ ys)
one_grid_page slot t columns base from xs ys page kinds first second =
    let bases : base ≡ from = regulars (head_of page) slot (filled_count xs) base t (filled_count ys) from (head_told slot columns base xs page first) (head_told t columns from ys page second) in
    let behind : behind_grid_head columns xs ≡ behind_grid_head columns ys = sym (behind_told slot columns base xs page first) ∙ behind_told t columns from ys page second in
    let size : ℕ = grid_cell_size columns in
    let rooms : ℕ = regular_room columns in
    let bytes : grid_cells_bytes columns xs ≡ grid_cells_bytes columns ys =
    sym (front_grid_cells columns size rooms xs (behind_grid_head columns xs) first.fill.each first.fill.room refl refl refl)
    ∙ ap (take (size * rooms)) behind
    ∙ front_grid_cells columns size rooms ys (behind_grid_head columns ys) second.fill.each second.fill.room refl refl refl in
    (bases, one_cells columns xs ys kinds first.fill.each second.fill.each (first.fill.room ∙ sym second.fill.room) bytes)

grid_sheet : (grid : GridPlan) (slot : ℕ) (columns : List Column) (a b : Sheet) (page : List ℕ) → valid columns → HoldsGridSheet grid slot columns a page → HoldsGridSheet grid slot columns b page → a ≡ b
grid_sheet grid slot columns a b page kinds first second =
    let both = one_grid_page slot slot columns first.base second.base first.cells second.cells page kinds first.bytes second.bytes in
    let begins : a.0 ≡ b.0 = first.on.begins ∙ ap (λ (n : ℕ). pos n) both.0 ∙ sym second.on.begins in
    let elements : a.1 ≡ b.1 = first.on.elements ∙ (λ i. stamped grid (elements_from (both.0 i) (both.1 i))) ∙ sym second.on.elements in
    λ i. (begins i, elements i)

-- a page of one series has one sheet
pub one_sheet : (shape : Shape) (slot : ℕ) (columns : List Column) (a b : Sheet) (page : List ℕ) → valid columns → HoldsSheet shape slot columns a page → HoldsSheet shape slot columns b page → a ≡ b
one_sheet Irregular slot columns a b page kinds first second = irregular_sheet slot columns a b page kinds first second
one_sheet (Regular grid) slot columns a b page kinds first second = grid_sheet grid slot columns a b page kinds first second
