use Rattle.ts_expr.proofs.AlikeLemmas.{alike}
use Rattle.ts_expr.proofs.laws.the_values_of_a_column_are_alike.Goals as goal

pub returns : goal.returns
returns c = alike
