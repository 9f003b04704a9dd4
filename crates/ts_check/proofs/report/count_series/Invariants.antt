-- The series so far are counted.
use Rattle.std.proofs.Common.{◌≡◌, ◌≤◌, take}
use Rattle.ts_check.specs.Listed.{count_among}
use Rattle.ts_check.proofs.report.count_series.Given as goal

abbrev pub invariant-loop-slot : goal.invariant-loop-slot
invariant-loop-slot l = record {
  counted : l.count ≡ count_among l.defs.definitions l.container (take l.slot-index l.slot-items);
  few : l.count ≤ l.slot-index;
}
