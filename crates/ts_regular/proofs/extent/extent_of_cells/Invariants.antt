-- What was judged so far.
use Rattle.ts_regular.proofs.JudgeLemmas.{SoFar}
use Rattle.ts_regular.proofs.extent.extent_of_cells.Given as goal

abbrev pub invariant-loop-i : goal.invariant-loop-i
invariant-loop-i l = SoFar l.kind.columns l.cells l.i l.count l.last l.hidden
