-- What edits write on the pages of a series, whatever its shape, what it is charged for it, and where an edit puts its
-- row.
use Rattle.std.specs.Prelude.{◌≡◌, ℕ, ◌+◌, ℤ, Option, Some, None, Contains, Result, Ok, Err, is_some, List, length}
use Rattle.ts_base.specs.declared.refusal.Refusal.{Refusal}
use Rattle.ts_page.specs.Pages.{Contents}
use Rattle.ts_row.specs.declared.kind.Column.{Column}
use Rattle.ts_row.specs.Row.{Element}
use Rattle.ts_space.specs.declared.place.Place.{Place}
use Rattle.ts_space.specs.Place.{pages_of}
use Rattle.ts_space.specs.Charge.{irregular_places_charge}
use Rattle.ts_cells.specs.IrregularPage.{page_room}
use Rattle.ts_irregular.specs.Edit.{element_at}
use Rattle.ts_series.specs.declared.edits.EditKind.{EditKind}
use Rattle.ts_series.specs.Edit.{target}
use Rattle.ts_series.specs.Edit as irregular
use Rattle.ts_regular_edits.specs.Edit.{refusal_if}
use Rattle.ts_offset.specs.declared.shape.Shape.{Shape}
use Rattle.ts_offset.specs.declared.shape.Shape.TheVariants.{Irregular, Regular}
pub use Rattle.ts_clip.specs.Series.{ArePlaces, HaveChain, HaveCells, HaveElements, IsTold}
use Rattle.ts_answer.specs.Answer.{Tried, ◌>>=◌, addressed}

-- The pages have these elements, of which the new places tell; no page changed but those of the old places and those
-- that `take` could give.
pub record AreWritten (shape : Shape) (slot : ℕ) (columns : List Column) (es : List Element) (old new : List Place)
    (v w : Contents) : Type 0 where
  pub have : HaveElements shape slot columns w.page new es
  pub others : (number : ℕ) → ¬ Contains (pages_of old) number → ¬ Contains v.free number
      → w.page number ≡ v.page number

-- what a series of a shape is charged by its places: an irregular one by its elements, a regular one for each place
abbrev pub charge_by : Shape → List Column → List Place → ℕ
charge_by Irregular columns places = irregular_places_charge (page_room columns) places
charge_by (Regular grid) columns places = length places

-- what it is charged for one element more, which on a grid comes on a page of its own
abbrev pub charge_with_one : Shape → List Column → List Place → ℕ
charge_with_one Irregular columns places = irregular.charge_with_one columns places
charge_with_one (Regular grid) columns places = length places + 1

-- a stamp, or why not
abbrev pub unless : ℤ → Option Refusal → Result ℤ Refusal
unless at None = Ok at
unless at (Some why) = Err why

-- where an edit puts its row among some elements, once it is known where the element stands that its stamp addresses
abbrev pub target_from : Shape → EditKind → ℤ → List Element → Result ℤ Refusal
target_from Irregular how at es = target how at es
target_from (Regular grid) how at es = unless at (refusal_if how (is_some (element_at at es)))

-- where an edit at a stamp puts its row among some elements, or why it doesn't, whatever room there is
abbrev pub target_in : Shape → EditKind → ℤ → List Element → Tried ℤ
target_in shape how stamp es = addressed shape stamp >>= (λ at. target_from shape how at es)
