-- Those gathered and those that are left are all.
use Rattle.std.proofs.Common.{◌+◌, ◌-◌, ◌≤◌}
use Rattle.ts_aggregate.proofs.GatheredLemmas.{AreGathered}
use Rattle.ts_aggregate.proofs.totals.short_totals.Given as goal

abbrev pub invariant-loop-left : goal.invariant-loop-left
invariant-loop-left l = record {
  missing : l.missing + l.left ≤ l.cells.left;
  gathered : AreGathered l.size l.sought l.cells l.left l.bytes (l.cells.left - l.left - l.missing) l.so_far;
}

abbrev pub decreases-loop-left : goal.decreases-loop-left
decreases-loop-left l = l.left
