use Rattle.ts_container.proofs.ReadLemmas.{SoFar}
use Rattle.ts_container.proofs.definitions.read_page.Given as goal

abbrev pub invariant-loop-k : goal.invariant-loop-k
invariant-loop-k l = SoFar l.fn.defs.definitions.format l.number l.k l.page.bytes (l.fn.defs.definitions, l.fn.broken.items) (l.defs.definitions, l.broken.items)
