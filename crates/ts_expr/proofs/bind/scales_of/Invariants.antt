use Rattle.std.proofs.Common.{◌≡◌, map, take}
use Rattle.ts_expr.proofs.bind.scales_of.Given as goal

abbrev pub invariant-loop-item : goal.invariant-loop-item
invariant-loop-item l = l.scales.items ≡ map (λ i. i.scale) (take l.item-index l.items)
