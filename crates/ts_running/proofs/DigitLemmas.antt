-- How large a number of at most 18 digits is.
use Rattle.std.proofs.Common.{ℕ, ◌^◌, ◌<◌, ◌≤◌, List, length, arith}
use Rattle.std.proofs.Math.Nat.{pow-le-pow_right}
use Rattle.ts_text.specs.Phrase.{digit_count}
use Rattle.ts_text.proofs.CallerLemmas.{digits-le}

pub few_digits : (n : ℕ) (s : List ℕ) → n < 10 ^ digit_count s → length s ≤ 18 → n < 10 ^ 18
few_digits n s below few =
    let small : 10 ^ digit_count s ≤ 10 ^ 18 = pow-le-pow_right {n = 10} (omega arith) {i = digit_count s} {j = 18} (omega (arith, few, digits-le s)) in
    omega (arith, small, below)
