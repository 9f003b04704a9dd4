use Rattle.std.proofs.Common.{ℕ, ◌<◌}
use Rattle.ts_layout.specs.Charges.{KeepsQuotaAt}
use Rattle.ts_container.proofs.charges.keep_quotas_by.Given as goal

abbrev pub invariant-loop-slot : goal.invariant-loop-slot
invariant-loop-slot l = (k : ℕ) → k < l.slot → KeepsQuotaAt l.defs.definitions l.space k
