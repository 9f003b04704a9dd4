use Rattle.std.proofs.Common.{◌≡◌, take}
use Rattle.ts_expr.specs.Aggregates.{rows_of}
use Rattle.ts_expr.specs.Running.{after}
use Rattle.ts_expr.proofs.bind.Bound.fold.Given as goal

abbrev pub invariant-loop-elem : goal.invariant-loop-elem
invariant-loop-elem l = l.running ≡ after l.self.items (rows_of (take l.elem-index l.elems))
