use Rattle.ts_slots.proofs.ParseLemmas.{both_ways}
use Rattle.ts_container.proofs.charges.keep_quotas_by.Goals as goal

pub returns-then-not-keeps_quota : goal.returns-then-not-keeps_quota
returns-then-not-keeps_quota c = (c.loop-slot.slot, c.loop-slot-test.true, λ kept. both_ways (c.keeps_quota.ensures.1 kept) c.if-not-keeps_quota.true)
