use Rattle.ts_expr.proofs.BindLemmas.{refused, bound_all, each}
use Rattle.ts_expr.proofs.laws.the_first_item_that_cannot_be_bound_is_refused.Goals as goal

pub returns-clause-refused : goal.returns-clause-refused
returns-clause-refused c = λ columns front back ones i why. refused columns front ones i back why

pub returns-clause-bound : goal.returns-clause-bound
returns-clause-bound c = bound_all

pub returns-clause-each : goal.returns-clause-each
returns-clause-each c = each
