use Rattle.ts_container.proofs.ThinLemmas.{ThinTo}
use Rattle.ts_container.proofs.sorted.sparse.Given as goal

abbrev pub invariant-loop-i : goal.invariant-loop-i
invariant-loop-i l = ThinTo l.defs.definitions l.spans l.i l.least
