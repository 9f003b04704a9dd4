use Rattle.ts_expr.proofs.LeastLemmas.{least, greatest}
use Rattle.ts_expr.proofs.laws.the_least_is_one_of_the_values.Goals as goal

pub returns-clause-least : goal.returns-clause-least
returns-clause-least c = least

pub returns-clause-greatest : goal.returns-clause-greatest
returns-clause-greatest c = greatest
