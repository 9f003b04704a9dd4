use Rattle.std.proofs.Common.{◌-◌, ◌≤◌, length}
use Rattle.std.specs.FinMap.{entries}
use Rattle.ts_model.specs.Definitions.{slots_by_name}
use Rattle.ts_model.specs.Table.{place_of}
use Rattle.ts_model.proofs.table.place_in.Given as goal

abbrev pub invariant-loop-low : goal.invariant-loop-low
invariant-loop-low l = record {
  from : l.low ≤ place_of l.name (entries (slots_by_name l.slots));
  to : place_of l.name (entries (slots_by_name l.slots)) ≤ l.high;
  within : l.high ≤ length l.order;
}

abbrev pub decreases-loop-low : goal.decreases-loop-low
decreases-loop-low l = l.high - l.low
