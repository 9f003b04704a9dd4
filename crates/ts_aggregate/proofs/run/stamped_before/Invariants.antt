-- So many cells are one, or the last of them has an element before the end.
use Rattle.std.proofs.Common.{◌-◌, ◌*◌, ◌<◌, ◌≤◌, drop}
use Rattle.ts_aggregate.specs.Groups.{HasBefore}
use Rattle.ts_aggregate.proofs.run.stamped_before.Given as goal

abbrev pub invariant-loop-low : goal.invariant-loop-low
invariant-loop-low l = record {
  one : 1 ≤ l.low;
  order : l.low ≤ l.high;
  some : 1 ≤ l.step;
  within : l.high ≤ l.cells.left;
  has : 1 < l.low → HasBefore l.limit (drop (l.cells.size * (l.low - 1)) l.cells.bytes.now);
}

abbrev pub decreases-loop-low : goal.decreases-loop-low
decreases-loop-low l = l.high - l.low
