-- Those before the one place are below the texts, those from the other place on aren't.
use Rattle.std.proofs.Common.{◌-◌, ◌≡◌, ◌<◌, ◌≤◌, ◌++◌, ℕ, true, false, length, get_or}
use Rattle.ts_rolling_sets.specs.InMemory.{in_order}
use Rattle.ts_rolling_sets.specs.Order.{is_below}
use Rattle.ts_rolling_sets.proofs.order.place_of.Given as goal

abbrev pub invariant-loop-low : goal.invariant-loop-low
invariant-loop-low l = record {
  order : l.low ≤ l.high;
  within : l.high ≤ length l.order;
  before : (k : ℕ) → k < l.low → is_below l.defs.definitions (l.front ++ l.rest) (get_or (in_order l.defs.definitions) k 0) ≡ true;
  behind : (k : ℕ) → l.high ≤ k → k < length (in_order l.defs.definitions) → is_below l.defs.definitions (l.front ++ l.rest) (get_or (in_order l.defs.definitions) k 0) ≡ false;
}

abbrev pub decreases-loop-low : goal.decreases-loop-low
decreases-loop-low l = l.high - l.low
