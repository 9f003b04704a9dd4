-- The table has the powers of ten.
use Rattle.std.proofs.Common.{◌≡◌, ℕ, zero, suc, ◌-◌, ◌^◌, ◌<◌, Bool, true, ◌&&◌, T, eqb, get_or, inl, inr, arith, eq-zero-or-pos, eqb→eq}
use lib.Ieee.Fits.{and_l, and_r}
use Rattle.ts_say.specs.declared.say_numbers.TheConstants.{POWERS}

abbrev are_powers : ℕ → Bool
are_powers zero = true
are_powers (suc n) = eqb (get_or POWERS n 0) (10 ^ n) && are_powers n

below : (count n : ℕ) → T (are_powers count) → n < count → get_or POWERS n 0 ≡ 10 ^ n
below zero n are few = absurd (omega arith)
below (suc count) n are few =
    elim (eq-zero-or-pos (count - n)) [
      | inl none ↦ let last : n ≡ count = omega arith in rw last (eqb→eq _ _ (and_l _ (are_powers count) are))
      | inr some ↦ below count n (and_r _ (are_powers count) are) (omega arith)
    ]

pub power_at : (n : ℕ) → n < 19 → get_or POWERS n 0 ≡ 10 ^ n
power_at n few = below 19 n tt few
