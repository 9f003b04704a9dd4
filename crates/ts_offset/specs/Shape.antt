-- What is taken for granted of the shape of a series.
use Rattle.ts_calendar.specs.Calendars.{IsLaid}
use Rattle.ts_offset.specs.declared.shape.Shape.{Shape}
use Rattle.ts_offset.specs.declared.shape.Shape.TheVariants.{Irregular, Regular}

-- the calendar of a grid is laid out on stamps
abbrev pub IsLaidOut : Shape → Type 0
IsLaidOut Irregular = Unit {0}
IsLaidOut (Regular grid) = IsLaid grid.calendar
