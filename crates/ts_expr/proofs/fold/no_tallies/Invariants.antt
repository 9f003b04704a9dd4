use Rattle.std.proofs.Common.{◌≡◌, [], take}
use Rattle.ts_expr.specs.Running.{after}
use Rattle.ts_expr.proofs.fold.no_tallies.Given as goal

abbrev pub invariant-loop-item : goal.invariant-loop-item
invariant-loop-item l = l.tallies.items ≡ after (take l.item-index l.items) []
