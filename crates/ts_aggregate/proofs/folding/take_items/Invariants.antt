-- The items so far have taken the values of their columns; the tallies of the others are as they were.
use Rattle.std.proofs.Common.{◌≡◌, ℕ, ◌<◌, ◌≤◌, ◌^◌, All, get_or, length}
use Rattle.ts_expr.specs.declared.tally.Tally.{Tally}
use Rattle.ts_expr.specs.Running.{count_of}
use Rattle.ts_aggregate.specs.KnownColumns.{IsKnown}
use Rattle.ts_aggregate.proofs.FoldingLemmas.{ItemTakes, an_item}
use Rattle.ts_aggregate.proofs.folding.take_items.Given as goal

abbrev pub invariant-loop-number : goal.invariant-loop-number
invariant-loop-number l = record {
  size : length l.tallies ≡ length l.items;
  few : All (λ t. count_of t ≤ 2 ^ 32) l.tallies;
  taken : (k : ℕ) (d : Tally) → k < l.number → ItemTakes l.columns l.row_cells.front l.row_cells.bytes.now (get_or l.items k an_item)
      (get_or l.initial.tallies k d) (get_or l.tallies k d);
  known : l.column < length l.columns → IsKnown l.columns l.row_cells l.column l.totals;
  rest : (k : ℕ) (d : Tally) → l.number ≤ k → get_or l.tallies k d ≡ get_or l.initial.tallies k d;
}
