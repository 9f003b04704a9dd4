use Rattle.std.proofs.Common.{to_z-of_z, FitsSigned, w64, rules}
use Rattle.ts_calendar.proofs.LawLemmas.{starts-around}
use Rattle.ts_offset.proofs.walk.interval_around.Goals as goal

pub returns-clause-around : goal.returns-clause-around
returns-clause-around c =
    let e = c.interval_around.ensures in
    let fits : FitsSigned w64 c.interval_around.result = search rules in
    rw (to_z-of_z fits) (starts-around c.args.calendar.now c.args.stamp c.interval_around.result e.laid e.stamp e.around)
