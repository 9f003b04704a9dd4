-- The cells that were passed over have no value.
use Rattle.std.proofs.Common.{◌≡◌, ◌≤◌}
use Rattle.ts_aggregate.specs.Column.{found, found_in, AreCells}
use Rattle.ts_aggregate.proofs.cells.Cells.next.Given as goal

abbrev pub invariant-loop-left : goal.invariant-loop-left
invariant-loop-left l = record {
  same : found l.self ≡ found_in l.self.position l.left l.bytes;
  whole : AreCells l.self.position l.left l.bytes;
  fewer : l.left ≤ l.self.left;
}

abbrev pub decreases-loop-left : goal.decreases-loop-left
decreases-loop-left l = l.left
