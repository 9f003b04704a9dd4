-- The cells so far are those of elements in order.
use Rattle.ts_cells.proofs.JudgeLemmas.{SoFar}
use Rattle.ts_cells.proofs.extent.extent_of_cells.Given as goal

abbrev pub invariant-loop-i : goal.invariant-loop-i
invariant-loop-i l = SoFar l.kind.columns l.cells l.i l.first l.last l.hidden
