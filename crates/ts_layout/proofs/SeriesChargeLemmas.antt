-- What a series is charged by its elements at their stamps is what it is charged by its pages.
use Rattle.std.proofs.Common.{◌≡◌, ℕ, Option, Some, None, List, length, sym, ap, ◌∙◌, ℤ, pos}
use Rattle.std.specs.Option.{option_map}
use Rattle.std.proofs.lemmas.List.{length-map}
use Rattle.ts_row.specs.Row.{Heading}
use Rattle.ts_space.specs.Charge.{irregular_charge}
use Rattle.ts_cells.specs.IrregularPage.{page_room}
use Rattle.ts_regular.specs.RegularPage.{elements_from}
use Rattle.ts_regular.specs.Places.{OffsetPage, all_in}
use Rattle.ts_sheets.specs.Stamped.{stamped}
use Rattle.ts_offset.specs.Grid.{GridPlan}
use Rattle.ts_offset.specs.declared.shape.Shape.{Shape}
use Rattle.ts_offset.specs.declared.shape.Shape.TheVariants.{Irregular, Regular}
use Rattle.ts_model.specs.Charge.{elements_charge}
use Rattle.ts_layout.specs.Sheets.{Sheet, elements_in}
use Rattle.ts_layout.specs.Meaning.{Layout, grid_in, shape_of, shape_at, heading_at, elements_at, sheets_of, charge_on, IsSound}
use Rattle.ts_layout.specs.Chains.{AreFilled, by_stamp}
use Rattle.ts_layout.proofs.GridLemmas.{of_cells, grid_elements, rising_pages, pages_charged, offsets_charged}
use Rattle.ts_layout.proofs.LaidLemmas.{laid_at}
use Rattle.ts_layout.proofs.SequenceLemmas.{its_sheets, its_count}

-- a regular series is charged a page for each that it has
grid_charged : (l : Layout) (slot : ℕ) (h : Heading) (grid : GridPlan) → IsSound l → AreFilled l → heading_at l.definitions slot ≡ Some h → shape_at l.definitions slot ≡ Some (Regular grid)
    → elements_charge h.columns (Regular grid) (elements_at slot l.element_pages) ≡ length (sheets_of slot l.element_pages)
grid_charged l slot h grid sound filled heading lies =
    let has = its_sheets l slot h (Regular grid) sound filled heading lies in
    let p = of_cells grid h.columns has.sheets has.is has.fills in
    let elements : elements_at slot l.element_pages ≡ by_stamp (stamped grid (all_in p.pages)) = has.elements ∙ ap by_stamp (ap elements_in p.is ∙ grid_elements grid p.pages) in
    let as_many : length has.sheets ≡ length p.pages =
    ap (λ (s : List Sheet). length s) p.is ∙ length-map p.pages (λ (q : OffsetPage). let sheet : Sheet = (pos q.0, stamped grid (elements_from q.0 q.1)) in sheet) in
    ap (elements_charge h.columns (Regular grid)) elements
    ∙ offsets_charged grid h.columns (all_in p.pages) (laid_at l.definitions (length l.element_pages) slot (Regular grid) sound.definitions lies) p.starts (rising_pages h.columns p.pages p.cells)
    ∙ pages_charged h.columns p.pages p.cells ∙ sym as_many ∙ sym has.many

not_on_grid : (o : Option GridPlan) → option_map Regular o ≡ Some Irregular → ⊥
not_on_grid None is = cc
not_on_grid (Some grid) is = cc

-- whatever its shape
pub shape_charged : (l : Layout) (slot : ℕ) (h : Heading) (regular : Option (ℕ × ℤ)) (shape : Shape) → IsSound l → AreFilled l → heading_at l.definitions slot ≡ Some h → shape_at l.definitions slot ≡ Some shape
    → shape_of l.definitions regular ≡ Some shape → elements_charge h.columns shape (elements_at slot l.element_pages) ≡ charge_on l.element_pages (page_room h.columns) slot regular
shape_charged l slot h None Irregular sound filled heading lies is = ap (irregular_charge (page_room h.columns)) (its_count l slot h Irregular sound filled heading lies)
shape_charged l slot h None (Regular grid) sound filled heading lies is = absurd (cc)
shape_charged l slot h (Some regular) Irregular sound filled heading lies is = absurd (not_on_grid (grid_in l.definitions regular) is)
shape_charged l slot h (Some regular) (Regular grid) sound filled heading lies is = grid_charged l slot h grid sound filled heading lies
