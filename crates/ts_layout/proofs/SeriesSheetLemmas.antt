-- The pages of a chain and pages with cells on a grid are sheets; and sheets of each shape are such pages.
use Rattle.std.specs.Prelude.{All, unwrap_or}
use Rattle.std.proofs.Common.{◌≡◌, ℕ, ◌+◌, ℤ, pos, ◌<ℤ◌, IsSome, Option, Some, List, [], ◌∷◌, length, refl, sym, ap, subst, ◌∙◌, length-append}
use Rattle.std.proofs.lemmas.List.Elements.{All-nil, All-cons, All-append}
use Rattle.std.proofs.lemmas.List.Sums.{sum_by-cons}
use Rattle.ts_row.specs.Row.{Element}
use Rattle.ts_row.specs.declared.kind.Column.{Column}
use Rattle.ts_space.specs.declared.place.Place.{Place}
use Rattle.ts_space.specs.Place.{AreAbove, IsRising, count_of}
use Rattle.ts_offset.specs.Grid.{GridPlan, stamp_of}
use Rattle.ts_offset.specs.declared.shape.Shape.{Shape}
use Rattle.ts_offset.specs.declared.shape.Shape.TheVariants.{Irregular, Regular}
use Rattle.ts_cells.specs.IrregularPage.{first_stamp}
use Rattle.ts_sheets.specs.Stamped.{IsChain, all_in, stamped, HaveStarts}
use Rattle.ts_sheets.specs.Places.{AreChained}
use Rattle.ts_regular.specs.RegularPage.{OffsetElement, elements_from}
use Rattle.ts_regular.specs.Places.{OffsetPage, AreOn, all_in as all_at}
use Rattle.ts_regular.proofs.CellsLemmas.{count_in}
use Rattle.ts_layout.specs.Sheets.{Sheet, FillSheet, BeginInOrder, AreInSequence, AreSheetsOn, elements_in}
use Rattle.ts_layout.specs.Chains.{chain_sheets, grid_sheets}
use Rattle.ts_layout.proofs.GridLemmas.{grid_elements}
use Rattle.ts_layout.proofs.PermutedLemmas.{all_front, all_back}
use Rattle.ts_layout.proofs.SheetLemmas.{lists_in, chain_elements, fill_of, length-stamped, AreBehind, begins_more}

-- sheets on pages are such as fill these, and their places count their elements
pub sheets_fill : (shape : Shape) (slot : ℕ) (columns : List Column) (pages : ℕ → List ℕ) (places : List Place) (sheets : List Sheet) → AreSheetsOn shape slot columns pages places sheets → All (FillSheet shape columns) sheets
sheets_fill shape slot columns pages [] [] on = All-nil (FillSheet shape columns)
sheets_fill shape slot columns pages [] (sheet ∷ sheets) on = absurd on
sheets_fill shape slot columns pages (place ∷ places) [] on = absurd on
sheets_fill shape slot columns pages (place ∷ places) (sheet ∷ sheets) on =
    All-cons (FillSheet shape columns) sheet sheets (fill_of shape slot columns sheet (pages place.page) on.0.bytes) (sheets_fill shape slot columns pages places sheets on.1)

pub sheets_count : (shape : Shape) (slot : ℕ) (columns : List Column) (pages : ℕ → List ℕ) (places : List Place) (sheets : List Sheet) → AreSheetsOn shape slot columns pages places sheets → count_of places ≡ length (elements_in sheets)
sheets_count shape slot columns pages [] [] on = refl
sheets_count shape slot columns pages [] (sheet ∷ sheets) on = absurd on
sheets_count shape slot columns pages (place ∷ places) [] on = absurd on
sheets_count shape slot columns pages (place ∷ places) (sheet ∷ sheets) on =
    let rest = sheets_count shape slot columns pages places sheets on.1 in
    let here : place.count ≡ length sheet.1 = ap (λ (p : Place). p.count) on.0.tells in
    sum_by-cons (λ (q : Place). q.count) place places ∙ (λ i. here i + rest i) ∙ sym (length-append sheet.1 (elements_in sheets))

-- a chain as sheets
lists_again : (chain : List (List Element)) → lists_in (chain_sheets chain) ≡ chain
lists_again [] = refl
lists_again (es ∷ chain) = ap (λ (l : List (List Element)). es ∷ l) (lists_again chain)

chain_on : (slot : ℕ) (columns : List Column) (pages : ℕ → List ℕ) (places : List Place) (chain : List (List Element)) → AreChained slot columns pages places chain → AreSheetsOn Irregular slot columns pages places (chain_sheets chain)
chain_on slot columns pages [] [] on = tt
chain_on slot columns pages [] (es ∷ chain) on = absurd on
chain_on slot columns pages (place ∷ places) [] on = absurd on
chain_on slot columns pages (place ∷ places) (es ∷ chain) on =
    let begins : unwrap_or (first_stamp es) (pos 0) ≡ place.at = ap (λ (o : Option ℤ). unwrap_or o (pos 0)) on.0.first in (
      record {
        bytes = (on.0.bytes, on.0.first ∙ ap (λ (z : ℤ). Some z) (sym begins));
        tells = λ i. record { at = sym begins i; page = place.page; count = sym on.0.count i };
      },
      chain_on slot columns pages places chain on.1,
    )

pub chain_is_sheets : (slot : ℕ) (columns : List Column) (pages : ℕ → List ℕ) (places : List Place) (chain : List (List Element)) → IsChain columns chain → AreChained slot columns pages places chain
    → AreInSequence Irregular columns (chain_sheets chain) × AreSheetsOn Irregular slot columns pages places (chain_sheets chain) × (elements_in (chain_sheets chain) ≡ all_in chain)
chain_is_sheets slot columns pages places chain is on =
    (subst (IsChain columns) (sym (lists_again chain)) is, chain_on slot columns pages places chain on, chain_elements (chain_sheets chain) ∙ ap all_in (lists_again chain))

-- sheets of an irregular series as a chain
pub sheets_chained : (slot : ℕ) (columns : List Column) (pages : ℕ → List ℕ) (places : List Place) (sheets : List Sheet) → AreSheetsOn Irregular slot columns pages places sheets → AreChained slot columns pages places (lists_in sheets)
sheets_chained slot columns pages [] [] on = tt
sheets_chained slot columns pages [] (sheet ∷ sheets) on = absurd on
sheets_chained slot columns pages (place ∷ places) [] on = absurd on
sheets_chained slot columns pages (place ∷ places) (sheet ∷ sheets) on = (
  record {
    bytes = on.0.bytes.0;
    count = sym (ap (λ (p : Place). p.count) on.0.tells);
    first = on.0.bytes.1 ∙ ap (λ (p : Place). Some p.at) (sym on.0.tells);
  },
  sheets_chained slot columns pages places sheets on.1,
)

module _ (grid : GridPlan) where
  abbrev HasStart : OffsetElement → Type 0
  HasStart e = IsSome (stamp_of grid e.0)

  -- pages on a grid as sheets
  pages_behind : (slot : ℕ) (columns : List Column) (pages : ℕ → List ℕ) (at : ℤ) (places : List Place) (ps : List OffsetPage) → AreOn slot columns pages places ps → AreAbove at places → AreBehind at (grid_sheets grid ps)
  pages_behind slot columns pages at [] [] on above = tt
  pages_behind slot columns pages at [] (p ∷ ps) on above = absurd on
  pages_behind slot columns pages at (place ∷ places) [] on above = absurd on
  pages_behind slot columns pages at (place ∷ places) (p ∷ ps) on above =
      (subst (λ (z : ℤ). at <ℤ z) on.0.at above.0, pages_behind slot columns pages at places ps on.1 above.1)

  pages_order : (slot : ℕ) (columns : List Column) (pages : ℕ → List ℕ) (places : List Place) (ps : List OffsetPage) → AreOn slot columns pages places ps → IsRising places → BeginInOrder (grid_sheets grid ps)
  pages_order slot columns pages [] [] on rising = tt
  pages_order slot columns pages [] (p ∷ ps) on rising = absurd on
  pages_order slot columns pages (place ∷ places) [] on rising = absurd on
  pages_order slot columns pages (place ∷ places) (p ∷ ps) on rising =
      begins_more (pos p.0, stamped grid (elements_from p.0 p.1)) (grid_sheets grid ps)
      (pages_behind slot columns pages (pos p.0) places ps on.1 (subst (λ (z : ℤ). AreAbove z places) on.0.at rising.0))
      (pages_order slot columns pages places ps on.1 rising.1)

  pages_on : (slot : ℕ) (columns : List Column) (pages : ℕ → List ℕ) (places : List Place) (ps : List OffsetPage) → AreOn slot columns pages places ps → HaveStarts grid (all_at ps) → AreSheetsOn (Regular grid) slot columns pages places (grid_sheets grid ps)
  pages_on slot columns pages [] [] on starts = tt
  pages_on slot columns pages [] (p ∷ ps) on starts = absurd on
  pages_on slot columns pages (place ∷ places) [] on starts = absurd on
  pages_on slot columns pages (place ∷ places) (p ∷ ps) on starts =
      let own : HaveStarts grid (elements_from p.0 p.1) = all_front HasStart (elements_from p.0 p.1) (all_at ps) starts in
      let many : length (stamped grid (elements_from p.0 p.1)) ≡ place.count = length-stamped grid (elements_from p.0 p.1) own ∙ count_in p.0 p.1 ∙ on.0.count in (
        record {
          bytes = record { base = p.0; cells = p.1; bytes = on.0.bytes; on = record { begins = refl; starts = own; elements = refl } };
          tells = λ i. record { at = on.0.at i; page = place.page; count = sym many i };
        },
        pages_on slot columns pages places ps on.1 (all_back HasStart (elements_from p.0 p.1) (all_at ps) starts),
      )

  pub pages_are_on : (slot : ℕ) (columns : List Column) (pages : ℕ → List ℕ) (places : List Place) (ps : List OffsetPage) → AreOn slot columns pages places ps → IsRising places → HaveStarts grid (all_at ps)
      → AreInSequence (Regular grid) columns (grid_sheets grid ps) × AreSheetsOn (Regular grid) slot columns pages places (grid_sheets grid ps) × (elements_in (grid_sheets grid ps) ≡ stamped grid (all_at ps))
  pages_are_on slot columns pages places ps on rising starts =
      (pages_order slot columns pages places ps on rising, pages_on slot columns pages places ps on starts, grid_elements grid ps)

  -- sheets on a grid as pages
  pub record AreOfPages (slot : ℕ) (columns : List Column) (pages : ℕ → List ℕ) (places : List Place) (sheets : List Sheet) : Type 0 where
    pub list : List OffsetPage
    pub is : sheets ≡ grid_sheets grid list
    pub on : AreOn slot columns pages places list
    pub starts : HaveStarts grid (all_at list)

  pub of_pages : (slot : ℕ) (columns : List Column) (pages : ℕ → List ℕ) (places : List Place) (sheets : List Sheet) → AreSheetsOn (Regular grid) slot columns pages places sheets → AreOfPages slot columns pages places sheets
  of_pages slot columns pages [] [] on = record { list = []; is = refl; on = tt; starts = All-nil HasStart }
  of_pages slot columns pages [] (sheet ∷ sheets) on = absurd on
  of_pages slot columns pages (place ∷ places) [] on = absurd on
  of_pages slot columns pages (place ∷ places) (sheet ∷ sheets) on =
      let here = on.0.bytes in
      let own : List OffsetElement = elements_from here.base here.cells in
      let rest = of_pages slot columns pages places sheets on.1 in
      let many : length sheet.1 ≡ length own = ap (λ (l : List Element). length l) here.on.elements ∙ length-stamped grid own here.on.starts in
      let count : length own ≡ place.count = sym many ∙ sym (ap (λ (p : Place). p.count) on.0.tells) in
      record {
        list = (here.base, here.cells) ∷ rest.list;
        is = λ i. (here.on.begins i, here.on.elements i) ∷ rest.is i;
        on = (
          record { bytes = here.bytes; count = sym (count_in here.base here.cells) ∙ count; at = ap (λ (p : Place). p.at) on.0.tells ∙ here.on.begins },
          rest.on,
        );
        starts = All-append HasStart own (all_at rest.list) here.on.starts rest.starts;
      }
