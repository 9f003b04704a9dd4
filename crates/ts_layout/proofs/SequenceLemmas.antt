-- The sheets of a series of a layout, in their order: its elements by their stamps are theirs.
use Rattle.std.specs.Prelude.{All, IsPermutation}
use Rattle.std.proofs.Common.{◌≡◌, ℕ, Some, List, length, sym, ap, subst, ◌∙◌}
use Rattle.std.specs.FinMap.{len, len-entries}
use Rattle.std.proofs.lemmas.List.Sorted.{All-permutation, IsPermutation-sym, length_permutation}
use Rattle.ts_row.specs.Row.{Element, Heading}
use Rattle.ts_row.specs.declared.kind.Column.{Column}
use Rattle.ts_cells.specs.IrregularPage.{AreRising}
use Rattle.ts_offset.specs.declared.shape.Shape.{Shape}
use Rattle.ts_layout.specs.Sheets.{Sheet, FillSheet, AreInSequence, elements_in}
use Rattle.ts_layout.specs.Meaning.{ElementPage, Layout, heading_at, shape_at, elements_of, elements_at, sheets_of, IsSound}
use Rattle.ts_layout.specs.Chains.{by_stamp, AreFilled}
use Rattle.ts_layout.proofs.OptionLemmas.{one_of}
use Rattle.ts_layout.proofs.PairLemmas.{elements_permuted, sheets_each}
use Rattle.ts_layout.proofs.StampLemmas.{rising_entries, by_stamp_permuted}
use Rattle.ts_layout.proofs.SheetLemmas.{sequence_rises}
use Rattle.ts_layout.proofs.LaidLemmas.{laid_at}

-- the sheets of a series in their order: each is filled, and their elements rise and are all that the series has
pub record HasSheets (shape : Shape) (slot : ℕ) (columns : List Column) (pages : List ElementPage) : Type 0 where
  pub sheets : List Sheet
  pub is : AreInSequence shape columns sheets
  pub fills : All (FillSheet shape columns) sheets
  pub rises : AreRising (elements_in sheets)
  pub moved : IsPermutation (elements_in sheets) (elements_of slot pages)
  pub many : length (sheets_of slot pages) ≡ length sheets
  pub elements : elements_at slot pages ≡ by_stamp (elements_in sheets)

pub its_sheets : (l : Layout) (slot : ℕ) (h : Heading) (shape : Shape) → IsSound l → AreFilled l → heading_at l.definitions slot ≡ Some h → shape_at l.definitions slot ≡ Some shape → HasSheets shape slot h.columns l.element_pages
its_sheets l slot h shape sound filled heading lies =
    let found = sound.sequences slot h shape heading lies in
    let each : All (FillSheet shape h.columns) (sheets_of slot l.element_pages) = sheets_each (FillSheet shape h.columns) slot l.element_pages (λ i sheet is.
    let fill = filled i slot sheet is in
    subst (λ (x : Heading). FillSheet shape x.columns sheet) (one_of (heading_at l.definitions slot) fill.heading h fill.columns heading)
    (subst (λ (x : Shape). FillSheet x fill.heading.columns sheet) (one_of (shape_at l.definitions slot) fill.shape shape fill.lies lies) fill.fill)) in
    let fills = All-permutation (FillSheet shape h.columns) (sheets_of slot l.element_pages) found.sheets (IsPermutation-sym found.sheets (sheets_of slot l.element_pages) found.all) each in
    let rises = sequence_rises shape h.columns found.sheets (laid_at l.definitions (length l.element_pages) slot shape sound.definitions lies) found.is fills in
    let moved = elements_permuted slot l.element_pages found.sheets found.all in
    record {
      sheets = found.sheets;
      is = found.is;
      fills = fills;
      rises = rises;
      moved = moved;
      many = length_permutation found.sheets (sheets_of slot l.element_pages) found.all;
      elements = by_stamp_permuted (elements_in found.sheets) (elements_of slot l.element_pages) rises moved;
    }

-- so many elements are there by their stamps
pub its_count : (l : Layout) (slot : ℕ) (h : Heading) (shape : Shape) → IsSound l → AreFilled l → heading_at l.definitions slot ≡ Some h → shape_at l.definitions slot ≡ Some shape → len (elements_at slot l.element_pages) ≡ length (elements_of slot l.element_pages)
its_count l slot h shape sound filled heading lies =
    let has = its_sheets l slot h shape sound filled heading lies in
    ap (λ m. len m) has.elements ∙ len-entries (by_stamp (elements_in has.sheets)) ∙ ap (λ (l : List Element). length l) (rising_entries (elements_in has.sheets) has.rises)
    ∙ sym (length_permutation (elements_in has.sheets) (elements_of slot l.element_pages) has.moved)
