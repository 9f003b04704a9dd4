-- Series as they are combined: what is said of them takes for granted what pages that are told have.
use Rattle.std.specs.Prelude.{◌≡◌, ℕ, ◌<◌, ◌^◌, ℤ, IsTrue, Some, Ok, All, List, length}
use Rattle.ts_page.specs.Pages.{Contents}
use Rattle.ts_space.specs.declared.place.Place.{Place}
use Rattle.ts_space.specs.Place.{IsRising, count_of}
use Rattle.ts_clip.specs.Series.{ArePlaces}
use Rattle.ts_offset.specs.Shape.{IsLaidOut}
use Rattle.ts_model.specs.Definitions.{Definitions, series_slots}
use Rattle.ts_layout.specs.Meaning.{shape_at}
use Rattle.ts_row.specs.declared.kind.Column.{Column}
use Rattle.ts_row.specs.Row.{fits, Element}
use Rattle.ts_calendar.specs.declared.grid.CommonGrid.{CommonGrid}
use Rattle.ts_calendar.specs.Calendars.{common_grid, IsEarly}
use Rattle.ts_offset.specs.declared.shape.Shape.{Shape}
use Rattle.ts_offset.specs.declared.shape.Shape.TheVariants.{Irregular, Regular}
use Rattle.ts_combine.specs.Combine.{Side}
use Rattle.ts_combine.specs.Series.{IsSeries}
use Rattle.ts_command.specs.declared.command.Command.{Command}
use Rattle.ts_command.specs.declared.command.Command.TheVariants.{Union, Intersect}
use Rattle.ts_pattern.specs.declared.junction.Junction.{Junction}
use Rattle.ts_pattern.specs.declared.junction.Junction.TheVariants.{And, Or}

-- a series with these of its elements
abbrev pub side_with : Shape → List Column → List Element → Side
side_with shape columns es = record { shape = shape; columns = length columns; elements = es }

-- the rows of elements fit the columns
abbrev pub AllFit : List Column → List Element → Type 0
AllFit columns es = All (λ e. IsTrue (fits columns e.1)) es

-- elements stand in order where the series can have them, and their rows fit its columns
pub record AreOfSeries (shape : Shape) (columns : List Column) (es : List Element) : Type 0 where
  pub series : IsSeries (side_with shape columns es)
  pub fit : AllFit columns es

-- a series of this shape stands in a slot
pub record IsThere (shape : Shape) (slot : ℕ) (d : Definitions) : Type 0 where
  pub within : slot < series_slots
  pub lies : shape_at d slot ≡ Some shape

-- and its pages can be read
pub record IsReadable (shape : Shape) (slot : ℕ) (columns : List Column) (d : Definitions) (places : List Place)
    (c : Contents)
    : Type 0 where
  pub there : IsThere shape slot d
  pub laid : IsLaidOut shape
  pub are : ArePlaces shape columns c places
  pub rising : IsRising places
  pub few : count_of places < 2 ^ 32

-- two series have a grid in common, or one of them lies on none
abbrev pub HaveGrid : Shape → Shape → Type 0
HaveGrid (Regular g) (Regular h) = (grid : CommonGrid) × (common_grid g.calendar h.calendar ≡ Ok grid)
    × IsEarly grid.unit g.calendar.patt_start
HaveGrid (Regular g) Irregular = Unit {0}
HaveGrid Irregular (Regular h) = Unit {0}
HaveGrid Irregular Irregular = Unit {0}

-- the command that joins two series so
abbrev pub join_of : Junction → List ℕ → List ℕ → ℤ → ℤ → Command
join_of And first second from to = Intersect first second from to
join_of Or first second from to = Union first second from to
