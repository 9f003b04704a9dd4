use Rattle.std.proofs.Common.{◌≡◌, map}
use Rattle.ts_expr.specs.Running.{value_of}
use Rattle.ts_expr.proofs.fold.values_of.Given as goal

abbrev pub invariant-loop-tally : goal.invariant-loop-tally
invariant-loop-tally l = l.values.items ≡ map value_of l.yielded
