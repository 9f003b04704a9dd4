use Rattle.std.proofs.Common.{◌≡◌, take}
use Rattle.ts_expr.specs.Running.{all_taken}
use Rattle.ts_expr.proofs.fold.take_values.Given as goal

abbrev pub invariant-loop-number : goal.invariant-loop-number
invariant-loop-number l = l.tallies ≡ all_taken (take l.number l.items) l.values l.initial.tallies
