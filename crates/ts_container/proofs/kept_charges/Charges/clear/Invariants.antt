use Rattle.std.proofs.Common.{◌≡◌, ℕ, ◌<◌, length, get_or}
use Rattle.ts_container.proofs.kept_charges.Charges.clear.Given as goal

abbrev pub invariant-loop-container : goal.invariant-loop-container
invariant-loop-container l = (length l.self-inside.sums.items ≡ 64) × ((k : ℕ) → k < l.container → get_or l.self-inside.sums.items k 0 ≡ 0)
