use Rattle.ts_expr.specs.Running.{IsAfter}
use Rattle.ts_expr_vectors.proofs.folds.take_often.Given as goal

abbrev pub invariant-loop : goal.invariant-loop
invariant-loop l = IsAfter l.bound.items l.running l.counter
