use Rattle.ts_combined_rows.proofs.CalendarLemmas.{regular_lies}
use Rattle.ts_combined_rows.proofs.sides.grid_calendar.Goals as goal

pub returns-in-Regular : goal.returns-in-Regular
returns-in-Regular c = regular_lies c.args.series.now.1 c.in-Regular.field-0 c.calendar_of.result c.in-Regular.is (c.calendar_of.ensures _ c.requires.lies)
