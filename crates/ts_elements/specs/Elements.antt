-- The row of literals for a series, and the commands that a routine stands for.
use Rattle.std.specs.Prelude.{◌≡◌, ℕ, Bool, true, false, Ok, ℤ, List}
use Rattle.ts_row.specs.declared.value.Literal.{Literal}
use Rattle.ts_row.specs.Row.{Heading, Row}
use Rattle.ts_command.specs.declared.command.Command.{Command}
use Rattle.ts_command.specs.declared.command.Command.TheVariants.{PutElem, PutElemNoDups, InsElem, UpdElem, HideElem}
use Rattle.ts_command.specs.declared.command.Command.TheVariants.{RevealElem}
use Rattle.ts_series.specs.declared.edits.EditKind.{EditKind}
use Rattle.ts_series.specs.declared.edits.EditKind.TheVariants.{Put, PutNoDups, Insert, Update}
use Rattle.ts_offset.specs.declared.shape.Shape.{Shape}
use Rattle.ts_model.specs.Definitions.{Definitions}
pub use Rattle.ts_container.specs.KeptCharges.{AreFew}
unfoldable pub use Rattle.ts_container.specs.KeptCharges.{IsCharged}
use Rattle.ts_answer.specs.Answer.{a_row}
use Rattle.ts_shelf.specs.Shelf.{IsShelf}

-- literals give this row for the columns of the series of a key
pub record HasRow (key : List ℕ) (literals : List Literal) (shape : Shape) (slot : ℕ) (h : Heading) (row : Row)
    (d : Definitions) : Type 0 where
  pub shelf : IsShelf shape slot h key d
  pub gives : a_row h.columns literals ≡ Ok row

-- the command that edits so
abbrev pub edit_of : EditKind → List ℕ → ℤ → List Literal → Command
edit_of Put key stamp literals = PutElem key stamp literals
edit_of PutNoDups key stamp literals = PutElemNoDups key stamp literals
edit_of Insert key stamp literals = InsElem key stamp literals
edit_of Update key stamp literals = UpdElem key stamp literals

-- the command that hides an element, or shows it again
abbrev pub mark_of : Bool → List ℕ → ℤ → Command
mark_of true key stamp = HideElem key stamp
mark_of false key stamp = RevealElem key stamp
