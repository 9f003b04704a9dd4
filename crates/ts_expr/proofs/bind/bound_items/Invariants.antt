use Rattle.std.proofs.Common.{◌≡◌, ◌<◌, ◌≤◌, All, length, drop}
use Rattle.ts_expr.specs.Aggregates.{most_scale, bound_items}
use Rattle.ts_expr.proofs.BindLemmas.{before_items}
use Rattle.ts_expr.proofs.bind.bound_items.Given as goal

abbrev pub invariant-loop-item : goal.invariant-loop-item
invariant-loop-item l = record {
  so_far : bound_items l.columns l.items ≡ before_items l.bound.items (bound_items l.columns (drop l.item-index l.items));
  places : All (λ i. i.column < length l.columns) l.bound.items;
  scales : All (λ i. i.scale ≤ most_scale) l.bound.items;
}
