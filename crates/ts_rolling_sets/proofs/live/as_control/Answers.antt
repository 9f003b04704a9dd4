use Rattle.std.proofs.Common.{refl}
use Rattle.ts_rolling_sets.proofs.live.as_control.Goals as goal

pub returns-in-Some-clause-few : goal.returns-in-Some-clause-few
returns-in-Some-clause-few c = let is = (c.in-Some.ensures.form c.in-Some.kept).0 refl in (is.0, is.1)

pub returns-in-Some-clause-key : goal.returns-in-Some-clause-key
returns-in-Some-clause-key c = ((c.in-Some.ensures.form c.in-Some.kept).0 refl).2
