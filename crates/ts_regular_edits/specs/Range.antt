-- What the call that takes all elements from one stamp to another away does to the pages of a regular series.
use Rattle.std.specs.Prelude.{◌≡◌, ℕ, ◌<◌, ◌↔◌, ℤ, ◌≤ℤ◌, Bool, Option, Some, List}
use Rattle.ts_calendar.specs.Calendars.{IsLaid}
use Rattle.ts_offset.specs.Grid.{GridPlan, stamp_of}
use Rattle.ts_space.specs.declared.place.Place.{Place}
use Rattle.ts_space.specs.declared.moved.Moved.{Moved}
use Rattle.ts_page.specs.Pages.{Contents}
use Rattle.ts_row.specs.declared.kind.Column.{Column}
use Rattle.ts_row.specs.Row.{Element}
use Rattle.ts_sheets.specs.Stamped.{is_within}
use Rattle.ts_regular.specs.Range.{is_between, IsCleared}

-- the offsets below this are those of the on starts up to a stamp, one at it included
abbrev pub AreUpTo : GridPlan → ℤ → ℕ → Type 0
AreUpTo grid stamp upper = IsLaid grid.calendar → (n : ℕ) (start : ℤ) → stamp_of grid n ≡ Some start → (n < upper)
    ↔ (start ≤ℤ stamp)

-- the offsets from one up to, not including, another are those of the on starts from one stamp to another, both
-- included
abbrev pub AreOffsetsOf : GridPlan → ℤ → ℤ → ℕ → ℕ → Type 0
AreOffsetsOf grid from to lower upper = IsLaid grid.calendar → (n : ℕ) (e : Element) → stamp_of grid n ≡ Some e.0
    → is_between lower upper n ≡ is_within from to e

-- the elements at the offsets of the stamps are taken away, or none is there
pub record IsClearedAt (tells : Bool) (slot : ℕ) (columns : List Column) (grid : GridPlan) (from to : ℤ)
    (places : List Place) (v w : Contents) (removed : ℕ) (moved : Option Moved) : Type 0 where
  pub lower : ℕ
  pub upper : ℕ
  pub offsets : AreOffsetsOf grid from to lower upper
  pub cleared : IsCleared tells slot columns lower upper places v w removed moved
