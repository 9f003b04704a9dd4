-- The elements that pages have of a series are in order.
use Rattle.std.proofs.Common.{ℕ, List, subst}
use Rattle.ts_row.specs.declared.kind.Column.{Column}
use Rattle.ts_row.specs.Row.{Element}
use Rattle.ts_space.specs.declared.place.Place.{Place}
use Rattle.ts_space.specs.Place.{IsRising}
use Rattle.ts_cells.specs.IrregularPage.{AreRising}
use Rattle.ts_sheets.proofs.OrderLemmas.{pages_in_order}
use Rattle.ts_regular.specs.Places.{all_in as all_at}
use Rattle.ts_regular.proofs.PlaceLemmas.{pages_rise}
use Rattle.ts_offset.specs.declared.shape.Shape.{Shape}
use Rattle.ts_offset.specs.declared.shape.Shape.TheVariants.{Irregular, Regular}
use Rattle.ts_clip.specs.Series.{HaveElements}
use Rattle.ts_offset.specs.Shape.{IsLaidOut}
use Rattle.ts_shelf.proofs.StartLemmas.{stamps_rising}

-- they are in order
pub in_order : (shape : Shape) → IsLaidOut shape → (slot : ℕ) (columns : List Column) (pages : ℕ → List ℕ) (places : List Place) (es : List Element) → IsRising places → HaveElements shape slot columns pages places es → AreRising es
in_order Irregular laid slot columns pages places es rising have = subst AreRising have.all (pages_in_order columns have.chain have.is.pages).rising
in_order (Regular grid) laid slot columns pages places es rising have =
    subst AreRising have.all (stamps_rising grid laid (all_at have.cells) (pages_rise slot columns pages places have.cells have.on rising) have.starts)
