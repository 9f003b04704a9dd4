use Rattle.std.proofs.Common.{refl}
use Rattle.ts_rolling_sets.proofs.live.as_window.Goals as goal

pub returns-in-Some-clause-key : goal.returns-in-Some-clause-key
returns-in-Some-clause-key c = ((c.in-Some.ensures.form c.in-Some.number).0 refl).1
