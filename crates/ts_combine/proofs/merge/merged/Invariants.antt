-- What was gathered and what comes from the two next elements on are all rows together.
use Rattle.std.proofs.Common.{length, ◌-◌, ◌+◌}
use Rattle.ts_combine.proofs.MergedLemmas.{IsUnderWay}
use Rattle.ts_combine.proofs.merge.merged.Given as goal

abbrev pub invariant-loop-i : goal.invariant-loop-i
invariant-loop-i l = IsUnderWay l.junction l.first l.second l.from l.to l.rows l.i l.j

abbrev pub decreases-loop-i : goal.decreases-loop-i
decreases-loop-i l = (length l.first.elems.now - l.i) + (length l.second.elems.now - l.j)
