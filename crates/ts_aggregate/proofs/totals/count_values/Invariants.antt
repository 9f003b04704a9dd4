-- Those counted and those that are left are all.
use Rattle.std.proofs.Common.{◌≡◌, ◌+◌, length}
use Rattle.ts_aggregate.specs.Column.{found, AreWhole}
use Rattle.ts_aggregate.proofs.totals.count_values.Given as goal

abbrev pub invariant-loop-more : goal.invariant-loop-more
invariant-loop-more l = record { whole : AreWhole l.rest; count : l.count + length (found l.rest) ≡ length (found l.cells) }

abbrev pub decreases-loop-more : goal.decreases-loop-more
decreases-loop-more l = l.rest.left
