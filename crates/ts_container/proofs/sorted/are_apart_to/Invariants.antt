use Rattle.ts_container.proofs.ClashLemmas.{PassedTo}
use Rattle.ts_container.proofs.sorted.are_apart_to.Given as goal

abbrev pub invariant-loop-i : goal.invariant-loop-i
invariant-loop-i l = PassedTo l.limit l.i l.spans l.before
