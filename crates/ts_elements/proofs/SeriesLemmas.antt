-- What pages that have elements of a series say of them: their charge, and the sheets that they are.
use Rattle.std.proofs.Common.{◌≡◌, ℕ, List, length, sym, ap, ◌∙◌}
use Rattle.std.specs.FinMap.{len, len-entries}
use Rattle.ts_row.specs.declared.kind.Column.{Column}
use Rattle.ts_row.specs.Row.{Element}
use Rattle.ts_space.specs.declared.place.Place.{Place}
use Rattle.ts_space.specs.Place.{IsRising}
use Rattle.ts_space.specs.Charge.{irregular_charge}
use Rattle.ts_cells.specs.IrregularPage.{page_room, AreRising}
use Rattle.ts_chain.proofs.PutLemmas.{chained_count}
use Rattle.ts_regular.specs.Places.{all_in as all_at}
use Rattle.ts_regular.proofs.PlaceLemmas.{pages_rise}
use Rattle.ts_sheets.proofs.ChargeLemmas.{charged}
use Rattle.ts_offset.specs.declared.shape.Shape.{Shape}
use Rattle.ts_offset.specs.declared.shape.Shape.TheVariants.{Irregular, Regular}
use Rattle.ts_model.specs.Charge.{elements_charge}
use Rattle.ts_layout.specs.Sheets.{Sheet, AreInSequence, AreSheetsOn, elements_in}
use Rattle.ts_layout.specs.Chains.{by_stamp, chain_sheets, grid_sheets}
use Rattle.ts_shelf.proofs.LawLemmas.{charges, entries_rising}
use Rattle.ts_shelf.proofs.OrderLemmas.{in_order}
use Rattle.ts_elements.specs.Stamps.{HaveElements, charge_by}
use Rattle.ts_offset.specs.Shape.{IsLaidOut}
use Rattle.ts_elements.proofs.LawLemmas.{as_sheets}

-- as many as there are entries of their map
pub many : (es : List Element) → AreRising es → len (by_stamp es) ≡ length es
many es rising = len-entries (by_stamp es) ∙ ap (λ (l : List Element). length l) (entries_rising es rising)

-- what they are charged is what their places are
pub costs : (shape : Shape) → IsLaidOut shape → (slot : ℕ) (columns : List Column) (pages : ℕ → List ℕ) (places : List Place) (es : List Element) → IsRising places → HaveElements shape slot columns pages places es
    → elements_charge columns shape (by_stamp es) ≡ charge_by shape columns places
costs Irregular laid slot columns pages places es rising have =
    ap (irregular_charge (page_room columns))
    (many es (in_order Irregular laid slot columns pages places es rising have) ∙ ap (λ (l : List Element). length l) (sym have.all) ∙ chained_count slot columns pages places have.chain have.on)
costs (Regular grid) laid slot columns pages places es rising have =
    ap (λ (l : List Element). elements_charge columns (Regular grid) (by_stamp l)) (sym have.all)
    ∙ charges.offsets grid columns (all_at have.cells) laid have.starts (pages_rise slot columns pages places have.cells have.on rising)
    ∙ charged slot columns pages places have.cells have.on rising

-- as sheets
pub record AreSheets (shape : Shape) (slot : ℕ) (columns : List Column) (pages : ℕ → List ℕ) (places : List Place) (es : List Element) : Type 0 where
  pub sheets : List Sheet
  pub is : AreInSequence shape columns sheets
  pub on : AreSheetsOn shape slot columns pages places sheets
  pub all : elements_in sheets ≡ es

pub sheets_of : (shape : Shape) (slot : ℕ) (columns : List Column) (pages : ℕ → List ℕ) (places : List Place) (es : List Element) → IsRising places → HaveElements shape slot columns pages places es → AreSheets shape slot columns pages places es
sheets_of Irregular slot columns pages places es rising have =
    let made = as_sheets.chain slot columns pages places have.chain have.is have.on in
    record { sheets = chain_sheets have.chain; is = made.0; on = made.1; all = made.2 ∙ have.all }
sheets_of (Regular grid) slot columns pages places es rising have =
    let made = as_sheets.grid grid slot columns pages places have.cells have.on rising have.starts in
    record { sheets = grid_sheets grid have.cells; is = made.0; on = made.1; all = made.2 ∙ have.all }
