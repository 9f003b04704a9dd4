use Rattle.ts_slots.proofs.ParseLemmas.{both_ways}
use Rattle.std.proofs.Common.{◌<◌, arith}
use Rattle.ts_container.proofs.OriginLemmas.{least_astray}
use Rattle.ts_container.proofs.origins.first_astray.Goals as goal

pub returns-then-not-has_origin_at : goal.returns-then-not-has_origin_at
returns-then-not-has_origin_at c =
    least_astray c.args.defs.now.definitions c.loop-slot.slot c.page_of_slot.result (let z : c.loop-slot.slot < 4096 = omega (arith, c.loop-slot-test.true, c.limit-slot-end.ensures) in z) c.page_of_slot.ensures c.loop-slot.invariant
    (λ has. both_ways (c.has_origin_at.ensures.1 has) c.if-not-has_origin_at.true)
