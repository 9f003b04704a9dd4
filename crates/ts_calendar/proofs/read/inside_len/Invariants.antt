use Rattle.std.proofs.Common.{◌≡◌, ◌+◌, drop}
use Rattle.ts_calendar.specs.Calendars.{inside_len}
use Rattle.ts_calendar.proofs.read.inside_len.Given as goal

abbrev pub invariant-loop-at : goal.invariant-loop-at
invariant-loop-at l = inside_len l.text ≡ l.at + inside_len (drop l.at l.text)
