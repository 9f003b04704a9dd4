use Rattle.std.proofs.Common.{ℕ, ◌<◌}
use Rattle.std.specs.Int.{IsGcd}
use Rattle.ts_pattern.proofs.multiple.common_divisor.Given as goal

abbrev pub invariant-loop-y : goal.invariant-loop-y
invariant-loop-y l = record {
  same : (g : ℕ) → IsGcd l.x l.y g → IsGcd l.fn.a l.fn.b g;
  positive : 0 < l.x;
}

abbrev pub decreases-loop-y : goal.decreases-loop-y
decreases-loop-y l = l.y
