use Rattle.std.proofs.Common.{◌≡◌, ℕ, ◌<◌, true, get_or}
use Rattle.ts_rolling.specs.Sets.{is_old}
use Rattle.ts_rolling.proofs.plan.count_old.Given as goal

abbrev pub invariant-loop-i : goal.invariant-loop-i
invariant-loop-i l = (k : ℕ) → k < l.i → is_old l.n l.top (get_or l.live k 0) ≡ true
