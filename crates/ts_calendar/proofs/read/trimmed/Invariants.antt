use Rattle.std.proofs.Common.{◌≡◌, length}
use Rattle.ts_calendar.specs.Calendars.{trimmed}
use Rattle.ts_calendar.proofs.read.trimmed.Given as goal

abbrev pub invariant-loop-rest : goal.invariant-loop-rest
invariant-loop-rest l = trimmed l.rest ≡ trimmed l.fn.text

abbrev pub decreases-loop-rest : goal.decreases-loop-rest
decreases-loop-rest l = length l.rest
