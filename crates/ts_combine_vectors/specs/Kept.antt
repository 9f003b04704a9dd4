-- Series that are kept with their calendars.
use Rattle.std.specs.Prelude.{◌≡◌, Option, Some, None}
use Rattle.ts_calendar.specs.Calendars.{CalendarPlan, IsLaid}
use Rattle.ts_offset.specs.declared.shape.Shape.{Shape}
use Rattle.ts_offset.specs.declared.shape.Shape.TheVariants.{Irregular, Regular}

-- a series on a grid has the grid's calendar, which is laid out on stamps
abbrev pub HasOwn : Shape → Option CalendarPlan → Type 0
HasOwn Irregular calendar = Unit {0}
HasOwn (Regular grid) None = ⊥
HasOwn (Regular grid) (Some calendar) = (calendar ≡ grid.calendar) × IsLaid calendar
