use Rattle.std.specs.Prelude.{length}
use Rattle.ts_expr.specs.Aggregates.{total, mean}
use Rattle.ts_expr.proofs.MeanLemmas.{nearest, only}
use Rattle.ts_expr.proofs.laws.a_mean_is_the_nearest.Goals as goal

pub returns-clause-nearest : goal.returns-clause-nearest
returns-clause-nearest c = λ values some. nearest (total values) (length values) some

pub returns-clause-only : goal.returns-clause-only
returns-clause-only c = λ values z some is. only (total values) (length values) z (mean values) some is (nearest (total values) (length values) some)
