use Rattle.std.proofs.Common.{arith}
use Rattle.jiff_core.proofs.SignedLemmas.{signed_casts}
use Rattle.ts_calendar.proofs.DatedLemmas.{march-first}
use Rattle.ts_calendar.proofs.dated.first_day.Goals as goal

pub returns-clause-value : goal.returns-clause-value
returns-clause-value c = omega (arith, signed_casts, march-first c.args.month c.requires.0 c.requires.1)
