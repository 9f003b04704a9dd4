use Rattle.std.proofs.Common.{to_z-of_z, FitsSigned, w64, rules}
use Rattle.ts_calendar.proofs.LawLemmas.{around-starts}
use Rattle.ts_calendar.proofs.calendar.Calendar.interval_around.Goals as goal

pub returns-clause-around : goal.returns-clause-around
returns-clause-around c =
    let e = c.interval_around.ensures in
    let fits : FitsSigned w64 c.interval_around.result = search rules in
    rw (to_z-of_z fits) (around-starts c.args.self.now c.args.stamp c.interval_around.result c.first.ensures.laid e.stamps.1
    (rw c.pattern.ensures at (rw c.unit.ensures at (rw c.first.ensures.value at e.around))))
