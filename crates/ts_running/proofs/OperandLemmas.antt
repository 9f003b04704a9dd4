-- Numbers of 128 bits, and their operations.
use Rattle.std.proofs.Common.{◌≡◌, ℕ, ◌*◌, ◌^◌, ◌<◌, ◌≤◌, true, nat_lt, ℤ, ◌*ℤ◌, Option, Some, None, refl, ap, arith, lit<, inl, inr}
use Rattle.std.proofs.Math.Nat.{pow-le-pow_right, mul-le-mul}
use Rattle.std.proofs.lemmas.Bool.{cases_Bool, ltb-true}
use Rattle.std.proofs.lemmas.Bool.Decides.{nat_tests}
use Rattle.std.proofs.lemmas.Int.{ints, fits_signed_from_abs, unsigned_abs-mul}
use Rattle.std.specs.Int.{w64, w128}
use Rattle.std.specs.Option.{option_and_then, SomeIff}
use Rattle.std.specs.Prelude.{FitsSigned, unsigned_abs}
use Rattle.ts_running.specs.Binding.{checked}

-- the powers of ten that an operand is brought by
pub ten_small : (k : ℕ) → k ≤ 28 → 10 ^ k < 2 ^ 127
ten_small k few =
    let step : 10 ^ k ≤ 10 ^ 28 = pow-le-pow_right (lit< tt) {i = k} {j = 28} few in
    let top : 10 ^ 28 < 2 ^ 127 = lit< tt in
    omega arith

-- what an operation of 128 bits gives, but for the least number, is what lies in range
pub checked_is : (z : ℤ) (o : Option ℤ) → SomeIff o (FitsSigned w128 z) z → option_and_then checked o ≡ checked z
checked_is z None none = elim (cases_Bool (nat_lt (unsigned_abs z) (2 ^ 127))) [
  | inl t ↦ absurd (none (fits_signed_from_abs w128 z (ltb-true (unsigned_abs z) (2 ^ 127) t)))
  | inr f ↦ rw f refl
]
checked_is z (Some x) there = ap checked there.1

-- the product of two numbers of 64 bits lies in range
pub product_small : (a b : ℤ) → FitsSigned w64 a → FitsSigned w64 b → checked (a *ℤ b) ≡ Some (a *ℤ b)
product_small a b fits_a fits_b =
    let le_a : unsigned_abs a ≤ 2 ^ 63 = omega (arith, ints) in
    let le_b : unsigned_abs b ≤ 2 ^ 63 = omega (arith, ints) in
    let both : unsigned_abs a * unsigned_abs b ≤ 2 ^ 63 * 2 ^ 63 = mul-le-mul le_a le_b in
    let top : 2 ^ 63 * 2 ^ 63 < 2 ^ 127 = lit< tt in
    let small : unsigned_abs (a *ℤ b) < 2 ^ 127 = omega (arith, unsigned_abs-mul a b, both, top) in
    let test : nat_lt (unsigned_abs (a *ℤ b)) (2 ^ 127) ≡ true = grind (arith, nat_tests) in
    rw test refl
