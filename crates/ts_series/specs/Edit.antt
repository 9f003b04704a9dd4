-- What an edit at a stamp comes to: the stamp at which its row then stands, or why it is refused.
use Rattle.std.specs.Prelude.{◌≡◌, ℕ, ◌+◌, ◌*◌, ◌<◌, ◌≤◌, ℤ, Bool, if◌then◌else◌, None, IsSome, is_some, Result, Ok}
use Rattle.std.specs.Prelude.{Err, List, length, IfOk}
use Rattle.ts_base.specs.declared.refusal.Refusal.{Refusal}
use Rattle.ts_base.specs.declared.refusal.Refusal.TheVariants as refusals
use Rattle.ts_space.specs.declared.place.Place.{Place}
use Rattle.ts_space.specs.Place.{count_of}
use Rattle.ts_space.specs.Moved.{moved_to}
use Rattle.ts_space.specs.Charge.{irregular_charge}
use Rattle.ts_base.specs.declared.fault.StoreFault.{StoreFault}
use Rattle.ts_page.specs.Pages.{Contents, Answered}
use Rattle.ts_row.specs.declared.kind.Column.{Column}
use Rattle.ts_row.specs.Row.{Row, Element}
use Rattle.ts_cells.specs.IrregularPage.{page_room}
use Rattle.ts_irregular.specs.Edit.{element_at, with_element}
use Rattle.ts_irregular.specs.Call.{Stays}
use Rattle.ts_sheets.specs.Stamped.{all_in, place_for}
use Rattle.ts_sheets.specs.Places.{AreMoved}
pub use Rattle.ts_sheets.specs.Stamped.{placed}
use Rattle.ts_chain.specs.Call.{IsTold, AreWritten}
use Rattle.ts_series.specs.declared.edits.EditKind.{EditKind}
use Rattle.ts_series.specs.declared.edits.EditKind.TheVariants.{Put, PutNoDups, Insert, Update}
use Rattle.ts_series.specs.declared.edits.Edited.{Edited}
use Rattle.ts_series.specs.declared.edits.Edited.TheVariants as edited

-- The stamp at which an edit puts its row among some elements, hidden or not; or why it doesn't, whatever room there
-- is.
abbrev pub target : EditKind → ℤ → List Element → Result ℤ Refusal
target Put stamp es = placed (place_for stamp es)
target PutNoDups stamp es = Ok stamp
target Insert stamp es = if is_some (element_at stamp es) then Err refusals.Duplicate else Ok stamp
target Update stamp es = if is_some (element_at stamp es) then Ok stamp else Err refusals.Missing

-- what a series with these places is charged for one element more
abbrev pub charge_with_one : List Column → List Place → ℕ
charge_with_one columns places = irregular_charge (page_room columns) (count_of places + 1)

-- An element is added at a stamp where none of the told ones stands, and the places become these. One element more is
-- charged within the room.
pub record IsAdded (tells : Bool) (slot : ℕ) (columns : List Column) (how : EditKind) (stamp : ℤ) (row : Row) (room : ℕ)
    (at : ℤ) (old new : List Place) (v w : Contents) : Type 0 where
  pub places : AreMoved columns old new v w
  pub count : count_of new ≤ count_of old + 1
  pub fits : charge_with_one columns old ≤ room
  pub target_is : IsTold tells slot columns old v (λ chain. target how stamp (all_in chain) ≡ Ok at)
  pub absent : IsTold tells slot columns old v (λ chain. element_at at (all_in chain) ≡ None)
  pub put : IsTold tells slot columns old v
      (λ chain. AreWritten slot columns (with_element at row (all_in chain)) old new v w)

-- one of the told elements is at the stamp, and gets the row; all places stay
pub record IsGivenRow (tells : Bool) (slot : ℕ) (columns : List Column) (how : EditKind) (stamp : ℤ) (row : Row)
    (places : List Place) (v w : Contents) : Type 0 where
  pub free : w.free ≡ v.free
  pub target_is : IsTold tells slot columns places v (λ chain. target how stamp (all_in chain) ≡ Ok stamp)
  pub there : IsTold tells slot columns places v (λ chain. IsSome (element_at stamp (all_in chain)))
  pub put : IsTold tells slot columns places v
      (λ chain. AreWritten slot columns (with_element stamp row (all_in chain)) places places v w)

-- it is refused for this, and everything stays
pub record IsRefused (tells : Bool) (slot : ℕ) (columns : List Column) (how : EditKind) (stamp : ℤ) (refusal : Refusal)
    (places : List Place) (v w : Contents) : Type 0 where
  pub same : Stays tells v w
  pub why : IsTold tells slot columns places v (λ chain. target how stamp (all_in chain) ≡ Err refusal)

-- An element would be added, where none of the told ones stands. One element more is charged more than there is room
-- for, and everything stays.
pub record IsFull (tells : Bool) (slot : ℕ) (columns : List Column) (how : EditKind) (stamp : ℤ) (room : ℕ)
    (places : List Place) (v w : Contents) : Type 0 where
  pub same : Stays tells v w
  pub over : room < charge_with_one columns places
  pub new : IsTold tells slot columns places v (λ chain. (at : ℤ) × (target how stamp (all_in chain) ≡ Ok at)
      × (element_at at (all_in chain) ≡ None))

-- what an edit did to the pages and places of a series, as it tells
abbrev pub IsEdited : Bool → ℕ → List Column → EditKind → ℤ → Row → ℕ → List Place → Contents → Contents → Edited
    → Type 0
IsEdited tells slot columns how stamp row room places v w (edited.Put at moved) =
    IsAdded tells slot columns how stamp row room at places (moved_to moved places) v w
IsEdited tells slot columns how stamp row room places v w edited.Replaced =
    IsGivenRow tells slot columns how stamp row places v w
IsEdited tells slot columns how stamp row room places v w (edited.Refused refusal) =
    IsRefused tells slot columns how stamp refusal places v w
IsEdited tells slot columns how stamp row room places v w edited.Full =
    IsFull tells slot columns how stamp room places v w

-- so much at most is added to the bytes of a record and five for each page that isn't free
abbrev pub GrowsWithin : ℕ → Contents → Contents → Type 0
GrowsWithin most v w = w.change_bytes + 5 * length v.free ≤ v.change_bytes + 5 * length w.free + most

-- so much an edit adds: four pages, and the numbers of four
abbrev pub most_edit : ℕ
most_edit = 16424

-- All that holds of an edit: what it did, and how it ends.
pub record IsDone (tells : Bool) (slot : ℕ) (columns : List Column) (how : EditKind) (stamp : ℤ) (row : Row) (room : ℕ)
    (places : List Place) (v w : Contents) (result : Result Edited StoreFault) : Type 0 where
  pub ok : IfOk result (IsEdited tells slot columns how stamp row room places v w)
  pub call : Answered result v w
  pub grows : IfOk result (λ done. GrowsWithin most_edit v w)
  pub change : w.change_bytes ≤ v.change_bytes + most_edit
