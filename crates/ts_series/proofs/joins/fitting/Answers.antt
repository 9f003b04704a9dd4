use Rattle.std.proofs.Common.{arith}
use Rattle.ts_series.proofs.joins.fitting.Goals as goal

pub returns-then-some-others-clause-fits : goal.returns-then-some-others-clause-fits
returns-then-some-others-clause-fits c = c.if-some-others.true

pub returns-else-some-gt0-clause-fits : goal.returns-else-some-gt0-clause-fits
returns-else-some-gt0-clause-fits c = let fit = c.requires.others in omega (arith, fit)
