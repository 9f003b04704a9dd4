-- The items so far know of no rows; the tallies of the others are as they were.
use Rattle.std.proofs.Common.{◌≡◌, ℕ, ◌<◌, ◌≤◌, ◌^◌, All, [], get_or, length, map, take}
use Rattle.ts_expr.specs.declared.tally.Tally.{Tally}
use Rattle.ts_expr.specs.Running.{count_of, value_of}
use Rattle.ts_aggregate.proofs.FoldingLemmas.{known, an_item}
use Rattle.ts_aggregate.proofs.folding.renew_all.Given as goal

abbrev pub invariant-loop-number : goal.invariant-loop-number
invariant-loop-number l = record {
  size : length l.tallies ≡ length l.items;
  few : All (λ t. count_of t ≤ 2 ^ 32) l.tallies;
  values : take l.number l.values.items ≡ map value_of (take l.number l.initial.tallies);
  there : l.number ≤ length l.values.items;
  most : length l.values.items ≤ length l.items;
  none : (k : ℕ) (d : Tally) → k < l.number → get_or l.tallies k d ≡ known (get_or l.items k an_item) [];
  rest : (k : ℕ) (d : Tally) → l.number ≤ k → get_or l.tallies k d ≡ get_or l.initial.tallies k d;
}
