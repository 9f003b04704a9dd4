-- None of the series so far is a control.
use Rattle.std.proofs.Common.{◌≡◌, ◌<◌, ℕ, None, length, get_or}
use Rattle.ts_rolling_sets.specs.InMemory.{control_at}
use Rattle.ts_rolling_sets.proofs.live.first_control.Given as goal

abbrev pub invariant-loop-slot : goal.invariant-loop-slot
invariant-loop-slot l = (k : ℕ) → k < l.slot-index → k < length l.slot-items → control_at l.defs.definitions l.set (get_or l.slot-items k 0) ≡ None
