use Rattle.ts_calendar.proofs.PrintLemmas.{read-printed}
use Rattle.ts_calendar.proofs.text.printed_calendars_are_read.Goals as goal

pub returns : goal.returns
returns c = read-printed
