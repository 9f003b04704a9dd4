-- What an edit of a regular series at a stamp comes to: a row that stands at the start of an interval, or why it is
-- refused.
use Rattle.std.specs.Prelude.{◌≡◌, ℕ, ◌<◌, ◌≤◌, ◌+◌, ℤ, pos, Bool, if◌then◌else◌, Option, Some, None, is_some, Result}
use Rattle.std.specs.Prelude.{List, length, IfOk, OnErr}
use Rattle.ts_base.specs.declared.refusal.Refusal.{Refusal}
use Rattle.ts_base.specs.declared.refusal.Refusal.TheVariants as refusals
use Rattle.ts_base.specs.declared.fault.StoreFault.{StoreFault}
use Rattle.ts_offset.specs.Grid.{GridPlan}
use Rattle.ts_space.specs.declared.place.Place.{Place}
use Rattle.ts_space.specs.Place.{place_at}
use Rattle.ts_space.specs.Moved.{moved_to}
use Rattle.ts_page.specs.Pages.{Contents, Answered, image_entry_size, free_entry_size}
use Rattle.ts_row.specs.declared.kind.Column.{Column}
use Rattle.ts_row.specs.Row.{Row}
use Rattle.ts_regular.specs.RegularPage.{base_of, element_at}
use Rattle.ts_regular.specs.Places.{all_in}
use Rattle.ts_regular.specs.Call.{Stays, AreLeft, IsTold, IsPut}
use Rattle.ts_series.specs.declared.edits.EditKind.{EditKind}
use Rattle.ts_series.specs.declared.edits.EditKind.TheVariants.{Put, PutNoDups, Insert, Update}
use Rattle.ts_series.specs.declared.edits.Edited.{Edited}
use Rattle.ts_series.specs.declared.edits.Edited.TheVariants as edited
use Rattle.ts_series.specs.Edit.{GrowsWithin}
use Rattle.ts_regular_edits.specs.Address.{ByAddress}

-- why an edit is refused, by whether an element stands at its offset
abbrev pub refusal_if : EditKind → Bool → Option Refusal
refusal_if Put there = None
refusal_if PutNoDups there = None
refusal_if Insert there = if there then Some refusals.Duplicate else None
refusal_if Update there = if there then None else Some refusals.Missing

-- among the told elements, hidden or not, an edit is refused for this, or for nothing
abbrev pub IsRefusedFor : Bool → ℕ → List Column → EditKind → ℕ → List Place → Contents → Option Refusal → Type 0
IsRefusedFor tells slot columns how offset places v why =
    IsTold tells slot columns places v (λ ps. refusal_if how (is_some (element_at offset (all_in ps))) ≡ why)

-- no page of the places has a cell for an offset
abbrev pub NeedsPage : List Column → ℕ → List Place → Type 0
NeedsPage columns offset places = place_at (pos (base_of columns offset)) places ≡ None

-- a row is put at an offset, as a new element or in place of the one that is there; a page more is within the room
pub record IsSet (tells : Bool) (slot : ℕ) (columns : List Column) (how : EditKind) (offset : ℕ) (row : Row) (room : ℕ)
    (old new : List Place) (v w : Contents) : Type 0 where
  pub allowed : IsRefusedFor tells slot columns how offset old v None
  pub put : IsPut tells slot columns offset row old new v w
  pub fits : NeedsPage columns offset old → length old < room

-- it is refused for this, and everything stays
pub record IsRefused (tells : Bool) (slot : ℕ) (columns : List Column) (how : EditKind) (offset : ℕ) (refusal : Refusal)
    (places : List Place) (v w : Contents) : Type 0 where
  pub why : IsRefusedFor tells slot columns how offset places v (Some refusal)
  pub same : Stays tells v w

-- An element would be added, where none of the told ones stands, on a page that the series doesn't have. One page more
-- is over the room, and everything stays.
pub record IsFull (tells : Bool) (slot : ℕ) (columns : List Column) (how : EditKind) (offset room : ℕ)
    (places : List Place) (v w : Contents) : Type 0 where
  pub allowed : IsRefusedFor tells slot columns how offset places v None
  pub new : IsTold tells slot columns places v (λ ps. element_at offset (all_in ps) ≡ None)
  pub needs : NeedsPage columns offset places
  pub over : room ≤ length places
  pub same : Stays tells v w

-- what an edit at an offset, whose interval starts here, did to the pages and places of a series, as it tells
abbrev pub IsEditedAt : Bool → ℕ → List Column → EditKind → ℕ → ℤ → Row → ℕ → List Place → Contents → Contents → Edited
    → Type 0
IsEditedAt tells slot columns how offset start row room places v w (edited.Put at moved) = (at ≡ start)
    × IsSet tells slot columns how offset row room places (moved_to moved places) v w
IsEditedAt tells slot columns how offset start row room places v w edited.Replaced = ⊥
IsEditedAt tells slot columns how offset start row room places v w (edited.Refused refusal) =
    IsRefused tells slot columns how offset refusal places v w
IsEditedAt tells slot columns how offset start row room places v w edited.Full =
    IsFull tells slot columns how offset room places v w

-- the same at a stamp: where it addresses no element, the edit is refused for that, and everything stays
abbrev pub IsEdited : Bool → ℕ → List Column → GridPlan → EditKind → ℤ → Row → ℕ → List Place → Contents → Contents
    → Edited → Type 0
IsEdited tells slot columns grid how stamp row room places v w done =
    ByAddress grid stamp (λ offset start. IsEditedAt tells slot columns how offset start row room places v w done)
    (λ why. (done ≡ edited.Refused why) × Stays tells v w)

-- so much an edit adds to the bytes of a record, and the number of a page that is taken: one page, and one number
abbrev pub most_edit : ℕ
most_edit = image_entry_size + free_entry_size

-- all that holds of an edit at an offset: what it did, and how it ends
pub record IsDone (tells : Bool) (slot : ℕ) (columns : List Column) (how : EditKind) (offset : ℕ) (start : ℤ)
    (row : Row) (room : ℕ) (places : List Place) (v w : Contents) (result : Result Edited StoreFault) : Type 0 where
  pub ok : IfOk result (IsEditedAt tells slot columns how offset start row room places v w)
  pub err : OnErr result (AreLeft tells v w)
  pub call : Answered result v w
  pub grows : IfOk result (λ done. GrowsWithin most_edit v w)
  pub change : w.change_bytes ≤ v.change_bytes + image_entry_size
