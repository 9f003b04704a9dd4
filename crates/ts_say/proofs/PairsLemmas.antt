-- The table has the digits of each number.
use Rattle.std.proofs.Common.{◌≡◌, ℕ, zero, suc, ◌+◌, ◌-◌, ◌*◌, ◌/◌, ◌<◌, Bool, true, ◌&&◌, T, eqb, get_or, inl, inr, arith, eq-zero-or-pos, eqb→eq}
use lib.Ieee.Fits.{and_l, and_r}
use Rattle.ts_base.specs.Moment.{digit}
use Rattle.ts_say.specs.declared.pairs.TheConstants.{PAIRS}

abbrev are_pairs : ℕ → Bool
are_pairs zero = true
are_pairs (suc n) = (eqb (get_or PAIRS (n * 2) 0) (digit (n / 10)) && eqb (get_or PAIRS (n * 2 + 1) 0) (digit n)) && are_pairs n

below : (count n : ℕ) → T (are_pairs count) → n < count → (get_or PAIRS (n * 2) 0 ≡ digit (n / 10)) × (get_or PAIRS (n * 2 + 1) 0 ≡ digit n)
below zero n are few = absurd (omega arith)
below (suc count) n are few =
    elim (eq-zero-or-pos (count - n)) [
      | inl none ↦ let last : n ≡ count = omega arith in let both = and_l _ (are_pairs count) are in rw last (eqb→eq _ _ (and_l _ _ both), eqb→eq _ _ (and_r _ _ both))
      | inr some ↦ below count n (and_r _ (are_pairs count) are) (omega arith)
    ]

pub pair_at : (n : ℕ) → n < 100 → (get_or PAIRS (n * 2) 0 ≡ digit (n / 10)) × (get_or PAIRS (n * 2 + 1) 0 ≡ digit n)
pair_at n few = below 100 n tt few
