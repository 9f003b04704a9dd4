-- What the calls on the pages of a series do, whatever its shape.
use Rattle.std.specs.Prelude.{◌≡◌, ◌⊎◌, ℕ, ◌<◌, ◌≤◌, ℤ, Bool, Option, Some, None, IsSome, option_map, Result, Ok, Err}
use Rattle.std.specs.Prelude.{List, [], length}
use Rattle.ts_base.specs.declared.refusal.Refusal.{Refusal}
use Rattle.ts_base.specs.declared.refusal.Refusal.TheVariants.{Missing}
use Rattle.ts_page.specs.Pages.{Contents}
use Rattle.ts_row.specs.declared.kind.Column.{Column}
use Rattle.ts_row.specs.Row.{Row, marked, Element}
use Rattle.ts_space.specs.declared.place.Place.{Place}
use Rattle.ts_space.specs.declared.moved.Moved.{Moved}
use Rattle.ts_space.specs.Moved.{moved_to}
use Rattle.ts_irregular.specs.Edit.{element_at, with_element, without_element}
use Rattle.ts_sheets.specs.Stamped.{within_range, without_range}
use Rattle.ts_series.specs.declared.edits.EditKind.{EditKind}
use Rattle.ts_series.specs.declared.edits.Edited.{Edited}
use Rattle.ts_series.specs.declared.edits.Edited.TheVariants as edited
use Rattle.ts_offset.specs.declared.shape.Shape.{Shape}
use Rattle.ts_model.specs.Charge.{elements_charge}
use Rattle.ts_layout.specs.Sheets.{room_of}
use Rattle.ts_layout.specs.Placed.{AreMoved}
use Rattle.ts_layout.specs.Chains.{by_stamp}
use Rattle.ts_answer.specs.Answer.{addressed}
use Rattle.ts_answer.specs.CarriedOut.{Stays}
use Rattle.ts_elements.specs.Stamps.{IsTold, AreWritten, charge_by, charge_with_one, target_in}

-- a row is put at a stamp, and the places become these, which cost what the room allows, or no more than before
pub record IsPut (tells : Bool) (shape : Shape) (slot : ℕ) (columns : List Column) (how : EditKind) (stamp : ℤ)
    (row : Row) (room : ℕ) (at : ℤ) (old new : List Place) (v w : Contents) : Type 0 where
  pub places : AreMoved (room_of shape columns) old new v w
  pub pays : (charge_by shape columns new ≤ room) ⊎ (charge_by shape columns new ≤ charge_by shape columns old)
  pub target_is : IsTold tells shape slot columns old v (λ es. target_in shape how stamp es ≡ Ok at)
  pub put : IsTold tells shape slot columns old v
      (λ es. AreWritten shape slot columns (with_element at row es) old new v w)

-- the element at the stamp gets the row; all places stay
pub record IsGivenRow (tells : Bool) (shape : Shape) (slot : ℕ) (columns : List Column) (how : EditKind) (stamp : ℤ)
    (row : Row) (places : List Place) (v w : Contents) : Type 0 where
  pub free : w.free ≡ v.free
  pub target_is : IsTold tells shape slot columns places v (λ es. target_in shape how stamp es ≡ Ok stamp)
  pub put : IsTold tells shape slot columns places v
      (λ es. AreWritten shape slot columns (with_element stamp row es) places places v w)

-- it is refused for this, and everything stays
pub record IsRefused (tells : Bool) (shape : Shape) (slot : ℕ) (columns : List Column) (how : EditKind) (stamp : ℤ)
    (refusal : Refusal) (places : List Place) (v w : Contents) : Type 0 where
  pub same : Stays tells v w
  pub why : IsTold tells shape slot columns places v (λ es. target_in shape how stamp es ≡ Err refusal)

-- An element would be added at a stamp where none of some stands, and they would cost this with it.
pub record WouldCost (shape : Shape) (columns : List Column) (how : EditKind) (stamp : ℤ) (row : Row)
    (es : List Element) (charge : ℕ) : Type 0 where
  pub at : ℤ
  pub target_is : target_in shape how stamp es ≡ Ok at
  pub absent : element_at at es ≡ None
  pub costs : elements_charge columns shape (by_stamp (with_element at row es)) ≡ charge

-- it would cost more than there is room for, and everything stays
pub record IsFull (tells : Bool) (shape : Shape) (slot : ℕ) (columns : List Column) (how : EditKind) (stamp : ℤ)
    (row : Row) (room : ℕ) (places : List Place) (v w : Contents) : Type 0 where
  pub same : Stays tells v w
  pub over : room < charge_with_one shape columns places
  pub new : IsTold tells shape slot columns places v
      (λ es. WouldCost shape columns how stamp row es (charge_with_one shape columns places))

-- what an edit did to the pages and places of a series, as it tells
abbrev pub IsEdited : Bool → Shape → ℕ → List Column → EditKind → ℤ → Row → ℕ → List Place → Contents → Contents
    → Edited → Type 0
IsEdited tells shape slot columns how stamp row room places v w (edited.Put at moved) =
    IsPut tells shape slot columns how stamp row room at places (moved_to moved places) v w
IsEdited tells shape slot columns how stamp row room places v w edited.Replaced =
    IsGivenRow tells shape slot columns how stamp row places v w
IsEdited tells shape slot columns how stamp row room places v w (edited.Refused refusal) =
    IsRefused tells shape slot columns how stamp refusal places v w
IsEdited tells shape slot columns how stamp row room places v w edited.Full =
    IsFull tells shape slot columns how stamp row room places v w

-- this is the element that a stamp addresses among some, hidden or not
abbrev pub IsAddressed : Shape → ℤ → List Element → Option Element → Type 0
IsAddressed shape stamp es found =
    ((at : ℤ) → addressed shape stamp ≡ Ok at → found ≡ option_map (λ row. (at, row)) (element_at at es))
    × ((why : Refusal) → addressed shape stamp ≡ Err why → found ≡ None)

abbrev pub IsFound : Bool → Shape → ℕ → List Column → ℤ → List Place → Contents → Option Element → Type 0
IsFound tells shape slot columns stamp places v found = IsTold tells shape slot columns places v
    (λ es. IsAddressed shape stamp es found)

-- the element that a stamp addresses, at this one, gets a mark; all places stay
pub record IsMarkSet (tells : Bool) (shape : Shape) (slot : ℕ) (columns : List Column) (stamp : ℤ) (hidden : Bool)
    (at : ℤ) (places : List Place) (v w : Contents) : Type 0 where
  pub free : w.free ≡ v.free
  pub address : addressed shape stamp ≡ Ok at
  pub there : IsTold tells shape slot columns places v (λ es. IsSome (element_at at es))
  pub put : IsTold tells shape slot columns places v
      (λ es. (row : Row) → element_at at es ≡ Some row
      → AreWritten shape slot columns (with_element at (marked hidden row) es) places places v w)

-- among some elements a mark is refused for this: the stamp addresses none, or none stands there
abbrev pub IsUnmarked : Shape → ℤ → List Element → Refusal → Type 0
IsUnmarked shape stamp es refusal =
    (addressed shape stamp ≡ Err refusal) ⊎ ((refusal ≡ Missing) × (at : ℤ) × (addressed shape stamp ≡ Ok at)
    × (element_at at es ≡ None))

-- a mark is set at the stamp that is told, or it is refused, and everything stays
abbrev pub IsMarked : Bool → Shape → ℕ → List Column → ℤ → Bool → List Place → Contents → Contents → Result ℤ Refusal
    → Type 0
IsMarked tells shape slot columns stamp hidden places v w (Ok at) =
    IsMarkSet tells shape slot columns stamp hidden at places v w
IsMarked tells shape slot columns stamp hidden places v w (Err refusal) =
    Stays tells v w × IsTold tells shape slot columns places v (λ es. IsUnmarked shape stamp es refusal)

-- the element that a stamp addresses is taken away, and the places become these, which cost no more
pub record IsTakenAway (tells : Bool) (shape : Shape) (slot : ℕ) (columns : List Column) (stamp : ℤ)
    (old new : List Place) (v w : Contents) : Type 0 where
  pub at : ℤ
  pub address : addressed shape stamp ≡ Ok at
  pub places : AreMoved (room_of shape columns) old new v w
  pub pays : charge_by shape columns new ≤ charge_by shape columns old
  pub there : IsTold tells shape slot columns old v (λ es. IsSome (element_at at es))
  pub left : IsTold tells shape slot columns old v
      (λ es. AreWritten shape slot columns (without_element at es) old new v w)

-- it is, or a stamp addresses none that is there, and everything stays
abbrev pub IsRemoved : Bool → Shape → ℕ → List Column → ℤ → List Place → Contents → Contents → Option Moved → Type 0
IsRemoved tells shape slot columns stamp places v w (Some moved) = IsTakenAway tells shape slot columns stamp places
    (moved_to moved places) v w
IsRemoved tells shape slot columns stamp places v w None =
    Stays tells v w × IsTold tells shape slot columns places v (λ es. (at : ℤ) → addressed shape stamp ≡ Ok at
    → element_at at es ≡ None)

-- so many elements from one stamp to another are taken away, and the places become these, which cost no more
pub record AreCleared (tells : Bool) (shape : Shape) (slot : ℕ) (columns : List Column) (from to : ℤ) (removed : ℕ)
    (old new : List Place) (v w : Contents) : Type 0 where
  pub places : AreMoved (room_of shape columns) old new v w
  pub pays : charge_by shape columns new ≤ charge_by shape columns old
  pub number : IsTold tells shape slot columns old v (λ es. removed ≡ length (within_range from to es))
  pub left : IsTold tells shape slot columns old v
      (λ es. AreWritten shape slot columns (without_range from to es) old new v w)

-- they are, or none stands between, and everything stays
abbrev pub IsCleared : Bool → Shape → ℕ → List Column → ℤ → ℤ → List Place → Contents → Contents → ℕ → Option Moved
    → Type 0
IsCleared tells shape slot columns from to places v w removed (Some moved) =
    AreCleared tells shape slot columns from to removed places (moved_to moved places) v w
IsCleared tells shape slot columns from to places v w removed None =
    Stays tells v w × (removed ≡ 0) × IsTold tells shape slot columns places v (λ es. within_range from to es ≡ [])
