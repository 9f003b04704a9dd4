-- What a text says of its pattern, before the pattern's runs are merged.
use Rattle.ts_calendar.specs.declared.text.PatternPart.{PatternPart}
use Rattle.ts_calendar.specs.declared.text.PatternPart.TheVariants.{Named, Own}
use Rattle.ts_calendar.specs.declared.text.CalendarText.{CalendarText}
use Rattle.ts_calendar.specs.declared.read.WrittenPart.{WrittenPart}
use Rattle.ts_calendar.specs.declared.read.WrittenPart.TheVariants as written
use Rattle.ts_calendar.specs.declared.read.WrittenCalendar.{WrittenCalendar}
use Rattle.ts_calendar.specs.Calendars.{calendar_text}

-- the part, with a pattern as it is written
abbrev pub part_of : WrittenPart → PatternPart
part_of (written.Named name) = Named name
part_of (written.Own p) = Own (record { unit = p.unit; runs = p.runs.items })

-- the text, with a pattern as it is written
abbrev pub text_of : WrittenCalendar → CalendarText
text_of c = calendar_text c.start c.patt_start (part_of c.part)
