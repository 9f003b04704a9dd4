use Rattle.std.specs.List.{AllAdjacentBelow}
use Rattle.ts_container.specs.Spans.{IsApart}
use Rattle.ts_container.proofs.sorted.overlapping.Given as goal

abbrev pub invariant-loop-i : goal.invariant-loop-i
invariant-loop-i l = AllAdjacentBelow IsApart l.spans l.i
