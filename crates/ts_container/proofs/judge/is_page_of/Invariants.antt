use Rattle.ts_container.proofs.ReadLemmas.{AreSlots}
use Rattle.ts_container.proofs.judge.is_page_of.Given as goal

abbrev pub invariant-loop-k : goal.invariant-loop-k
invariant-loop-k l = AreSlots l.format l.number l.k l.page.bytes
