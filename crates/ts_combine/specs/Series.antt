-- Series as they are handed in to be combined: what they mean, and what the clauses take for granted of their elements.
use Rattle.std.specs.Prelude.{◌≡◌, ℕ, ℤ, ◌≤ℤ◌, Option, Some, None, List, filter}
use Rattle.std.specs.Borrow.{Bor}
use Rattle.ts_entry.specs.Entry.{elements_in}
use Rattle.ts_row.specs.Row.{Row, Element}
use Rattle.ts_cells.specs.IrregularPage.{AreRising}
use Rattle.ts_irregular.specs.Edit.{element_at}
use Rattle.ts_calendar.specs.Calendars.{CalendarPlan}
use Rattle.ts_offset.specs.Grid.{GridPlan, held_start, stamp_of}
use Rattle.ts_offset.specs.declared.shape.Shape.{Shape}
use Rattle.ts_offset.specs.declared.shape.Shape.TheVariants.{Irregular, Regular}
use Rattle.ts_combine.specs.declared.side.Side as given
use Rattle.ts_combine.specs.Combine.{Side}
use Rattle.ts_base.specs.Moment.{is_between}

-- what a series that is handed in means
abbrev pub side_of : given.Side → Side
side_of s = record { shape = s.shape.now; columns = s.columns; elements = elements_in s.elems.now }

-- a calendar is there, and is this one
abbrev pub IsGiven : CalendarPlan → Option (Bor CalendarPlan) → Type 0
IsGiven plan None = ⊥
IsGiven plan (Some calendar) = calendar.now ≡ plan

-- the calendar of a series on a grid is handed in with it
abbrev pub IsGivenFor : Shape → Option (Bor CalendarPlan) → Type 0
IsGivenFor Irregular calendar = Unit {0}
IsGivenFor (Regular grid) calendar = IsGiven grid.calendar calendar

abbrev pub HasCalendar : given.Side → Type 0
HasCalendar s = IsGivenFor s.shape.now s.calendar

-- a stamp is an on start of a grid, from the origin on
abbrev pub IsStartOf : GridPlan → ℤ → Type 0
IsStartOf grid stamp = (n : ℕ) × (stamp_of grid n ≡ Some stamp)

-- on a grid each element stands at such a start
abbrev pub AreOnStarts : Shape → List Element → Type 0
AreOnStarts Irregular es = Unit {0}
AreOnStarts (Regular grid) es = (stamp : ℤ) (row : Row) → element_at stamp es ≡ Some row → IsStartOf grid stamp

-- the elements stand in order of their stamps, where the series can have them
pub record IsSeries (s : Side) : Type 0 where
  pub rising : AreRising s.elements
  pub on_starts : AreOnStarts s.shape s.elements

-- a stamp isn't later than the start of the interval that holds another one, unless that starts before the origin
abbrev pub IsBeforeHeld : Shape → ℤ → ℤ → Type 0
IsBeforeHeld Irregular from low = Unit {0}
IsBeforeHeld (Regular grid) from low = (start : ℤ) → held_start grid.calendar from ≡ Some start → grid.origin ≤ℤ start
    → low ≤ℤ start

-- of a series that is combined from a stamp on, the elements from a stamp `low` on are enough
pub record IsEnough (shape : Shape) (from low : ℤ) : Type 0 where
  pub early : low ≤ℤ from
  pub held : IsBeforeHeld shape from low

-- a series with its elements from one stamp to another alone, both included
abbrev pub side_within : ℤ → ℤ → Side → Side
side_within from to s = record s { elements = filter (λ e. is_between from to e.0) s.elements }
