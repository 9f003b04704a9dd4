use Rattle.std.proofs.Common.{◌-◌, arith}
use Rattle.ts_slots.proofs.ParseLemmas.{both_ways}
use Rattle.ts_container.proofs.ClashLemmas.{clash_at}
use Rattle.ts_container.proofs.sorted.overlapping.Goals as goal

pub least_overlapping-requires-clause-some : goal.least_overlapping-requires-clause-some
least_overlapping-requires-clause-some c =
    let most = c.max.ensures in
    clash_at c.args.spans.now c.max.result (c.loop-i.i - 1) c.loop-i.i _ c.requires.order c.requires.ends c.requires.pages (omega (arith, c.loop-i.auto.i)) c.loop-i-test.true (omega (arith, most)) (omega (arith, most))
    (λ apart. both_ways (c.are_apart.ensures.1 apart) c.if-not-are_apart.true)
