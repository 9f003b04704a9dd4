use Rattle.std.proofs.Common.{◌≡◌, ◌*◌, ◌≤◌, ◌^◌, take}
use Rattle.ts_layout.specs.Meaning.{sum_of_quotas}
use Rattle.ts_container.proofs.rules.sum_of_quotas.Given as goal

abbrev pub invariant-loop-slot : goal.invariant-loop-slot
invariant-loop-slot l = (l.sum ≡ sum_of_quotas (take l.slot l.defs.definitions.containers)) × (l.sum ≤ l.slot * 2 ^ 32)
