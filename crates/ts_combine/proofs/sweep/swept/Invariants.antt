-- Up to a number all rows were gathered, and both reaches are tracked.
use Rattle.std.proofs.Common.{length, ◌-◌, ◌+◌}
use Rattle.ts_offset.specs.Grid.{gap}
use Rattle.ts_combine.proofs.SweptLemmas.{IsSwept}
use Rattle.ts_combine.proofs.sweep.swept.Given as goal

abbrev pub invariant-loop-at : goal.invariant-loop-at
invariant-loop-at l = IsSwept l.junction l.line.calendar.now l.line.low l.line.limit l.first l.calendar l.second l.other l.rows l.at l.here l.there

abbrev pub decreases-loop-at : goal.decreases-loop-at
decreases-loop-at l = gap l.at l.line.limit + (length l.first.elems.now - l.here.index) + (length l.second.elems.now - l.there.index)
