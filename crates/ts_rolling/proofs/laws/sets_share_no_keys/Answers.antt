use Rattle.std.proofs.Common.{arith, [], ◌∷◌}
use Rattle.ts_rolling.specs.Sets.{window_key, control_key}
use Rattle.ts_rolling.proofs.KeyLemmas.{numbered_same, never_both, never_own}
use Rattle.ts_rolling.proofs.laws.sets_share_no_keys.Goals as goal

pub returns : goal.returns
unfolding window_key control_key
returns c = record {
  windows = λ set other i j h g few less e. numbered_same [] 12 set other i j h g few less e;
  controls = λ set other m n h g few less e. numbered_same (119 ∷ []) 4 set other m n h g (omega (arith, few)) (omega (arith, less)) e;
  own = never_own;
  apart = never_both;
}
