-- What the calls read of the pages of a series.
use Rattle.std.specs.Prelude.{◌≡◌, ℕ, ℤ, Bool, false, IsTrue, Result, Ok, Err, List, []}
use Rattle.ts_base.specs.declared.refusal.Refusal.{Refusal}
use Rattle.ts_row.specs.Row.{Element, seen, has_hidden}
use Rattle.ts_sheets.specs.Stamped.{within_range}
use Rattle.ts_entry.specs.Entry.{Entry, elements_of, AreTaken}

-- entries were taken, as many as they are; or they are refused, and none was taken
abbrev pub IsRead : (List Entry → Type 0) → Result (List Entry) Refusal → Result ℕ Refusal → Type 0
IsRead took (Ok entries) (Ok count) = AreTaken took entries count
IsRead took (Ok entries) (Err refusal) = ⊥
IsRead took (Err why) (Ok count) = ⊥
IsRead took (Err why) (Err refusal) = (refusal ≡ why) × took []

-- what is told of some elements is so: `shown` tells that none of them is hidden
abbrev pub IsShown : Bool → List Element → Type 0
IsShown shown es = IsTrue shown → has_hidden es ≡ false

-- of some elements those from one stamp to another were taken that aren't hidden, perhaps with entries between them
-- that have none
pub record AreElementsTaken (took : List Entry → Type 0) (from to : ℤ) (es : List Element) : Type 0 where
  pub entries : List Entry
  pub taken : took entries
  pub are : elements_of entries ≡ within_range from to (seen es)
