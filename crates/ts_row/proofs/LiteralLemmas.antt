-- Numbers brought from one scale to another.
use Rattle.std.proofs.Common.{◌≡◌, ◌≢◌, ℕ, zero, suc, ◌+◌, ◌*◌, ◌/◌, ◌%◌, ◌^◌, ◌<◌, ◌≤◌, ◌==◌, false, if◌then◌else◌, Option, Some, None, IsTrue, refl, ap, subst, ◌∙◌, arith, lit<}
use Rattle.std.specs.Option.{option_and_then}
use Rattle.std.proofs.lemmas.Bool.Decides.{nat_tests}
use Rattle.std.proofs.lemmas.Nat.{pow-add, mod-mul-add, div-mul-add}
use Rattle.std.proofs.Math.Nat.{mul-mod_left, mul-div_cancel, mod-eq_of_lt, mul-lt-mul_of_pos_right, mul_comm, pow-le-pow_right, one-le-pow}
use Rattle.ts_row.specs.declared.kind.ColumnKind.{ColumnKind}
use Rattle.ts_row.specs.declared.kind.ColumnKind.TheVariants.{SmallInt, Integer, BigInt, Decimal, VarChar}
use Rattle.ts_row.specs.Row.{is_kind, rescaled, holds_size, size_if_held, size_if_fits}

-- a power of ten is above 0
pub ten_pow_positive : (k : ℕ) → 0 < 10 ^ k
ten_pow_positive k = one-le-pow k 10 (lit< tt)

-- the first 39 powers of ten are numbers of 128 bits
pub ten_pow_small : (k : ℕ) → k < 39 → 10 ^ k < 2 ^ 128
ten_pow_small k below =
    let step : 10 ^ k ≤ 10 ^ 38 = pow-le-pow_right (lit< tt) {i = k} {j = 38} (omega arith) in
    let top : 10 ^ 38 < 2 ^ 128 = lit< tt in
    omega arith

-- so are up to 18 digits of 64 bits
pub ten_pow_short : (k : ℕ) → k ≤ 18 → 10 ^ k < 2 ^ 64
ten_pow_short k few =
    let step : 10 ^ k ≤ 10 ^ 18 = pow-le-pow_right (lit< tt) {i = k} {j = 18} few in
    let top : 10 ^ 18 < 2 ^ 64 = lit< tt in
    omega arith

-- a size that a column holds is that of a number of 128 bits with a sign
pub held_bound : (kind : ColumnKind) (n : ℕ) → IsTrue (is_kind kind) → IsTrue (holds_size kind n) → n < 2 ^ 127
held_bound SmallInt n valid held = grind (arith, nat_tests)
held_bound Integer n valid held = grind (arith, nat_tests)
held_bound BigInt n valid held = grind (arith, nat_tests)
held_bound (Decimal digits scale) n valid held =
    let few : digits ≤ 28 = grind (arith, nat_tests) in
    let step : 10 ^ digits ≤ 10 ^ 28 = pow-le-pow_right (lit< tt) {i = digits} {j = 28} few in
    let top : 10 ^ 28 < 2 ^ 127 = lit< tt in
    let below : n < 10 ^ digits = grind (arith, nat_tests) in
    omega arith
held_bound (VarChar most) n valid held = cc

-- no column holds a size past 128 bits
pub holds_size_wide : (kind : ColumnKind) (n : ℕ) → IsTrue (is_kind kind) → 2 ^ 128 ≤ n → holds_size kind n ≡ false
holds_size_wide SmallInt n valid wide = grind (arith, nat_tests)
holds_size_wide Integer n valid wide = grind (arith, nat_tests)
holds_size_wide BigInt n valid wide = grind (arith, nat_tests)
holds_size_wide (Decimal digits scale) n valid wide =
    let few : digits < 39 = grind (arith, nat_tests) in
    let small : 10 ^ digits < 2 ^ 128 = ten_pow_small digits few in
    grind (arith, nat_tests)
holds_size_wide (VarChar most) n valid wide = refl

-- only sizes of 128 bits are held
pub held_fits : (kind : ColumnKind) (o : Option ℕ) → IsTrue (is_kind kind) → option_and_then (size_if_held kind) (option_and_then size_if_fits o) ≡ option_and_then (size_if_held kind) o
held_fits kind None valid = refl
held_fits kind (Some n) valid = grind (arith, nat_tests, holds_size_wide kind n valid)

-- a product is 0 exactly where its first factor is
times_zero : (r s : ℕ) → 0 < s → (r * s == 0) ≡ (r == 0)
times_zero zero s above = grind (arith, nat_tests)
times_zero (suc r) s above = grind (arith, nat_tests)

-- a number in places of s, over places of s and d more
over_places : (n s d : ℕ) → 0 < s → 0 < d → (n * s / (s * d) ≡ n / d) × (n * s % (s * d) ≡ n % d * s)
over_places n s d s_above d_above =
    let below : n % d < d = omega arith in
    let less : n % d * s < s * d = subst (λ m. n % d * s < m) (mul_comm d s) (mul-lt-mul_of_pos_right below s_above) in
    let whole : n ≡ d * (n / d) + n % d = omega arith in
    let parts : n * s ≡ n / d * (s * d) + n % d * s = ap (λ m. m * s) whole ∙ omega arith in (
      ap (λ m. m / (s * d)) parts ∙ div-mul-add (n / d) (s * d) (n % d * s) less,
      ap (λ m. m % (s * d)) parts ∙ mod-mul-add (n / d) (s * d) (n % d * s) less,
    )

-- a number with more digits after the point
pub rescaled-raise : (n w s d : ℕ) → s ≡ w + d → rescaled n w s ≡ Some (n * 10 ^ d)
rescaled-raise n w s d is =
    let split : n * 10 ^ s ≡ n * 10 ^ d * 10 ^ w = ap (λ k. n * 10 ^ k) is ∙ ap (λ m. n * m) (pow-add 10 w d) ∙ omega arith in
    let above : 0 < 10 ^ w = ten_pow_positive w in
    let rest : n * 10 ^ s % 10 ^ w ≡ 0 = ap (λ m. m % 10 ^ w) split ∙ mul-mod_left (n * 10 ^ d) (10 ^ w) in
    let quotient : n * 10 ^ s / 10 ^ w ≡ n * 10 ^ d = ap (λ m. m / 10 ^ w) split ∙ mul-div_cancel (n * 10 ^ d) above in
    rw (rest, quotient)

-- a number with fewer digits after the point
pub rescaled-lower : (n w s d : ℕ) → w ≡ s + d → rescaled n w s ≡ (if n % 10 ^ d == 0 then Some (n / 10 ^ d) else None)
rescaled-lower n w s d is =
    let split : 10 ^ w ≡ 10 ^ s * 10 ^ d = ap (λ k. 10 ^ k) is ∙ pow-add 10 s d in
    let places = over_places n (10 ^ s) (10 ^ d) (ten_pow_positive s) (ten_pow_positive d) in
    rw (split, places.0, places.1, times_zero (n % 10 ^ d) (10 ^ s) (ten_pow_positive s))

-- a number below the power isn't whole over it, but for 0
pub lower_too_far : (n p : ℕ) → n < p → n ≢ 0 → (if n % p == 0 then Some (n / p) else None) ≡ None
lower_too_far n p below above =
    let rest : n % p ≡ n = mod-eq_of_lt below in
    grind (arith, nat_tests, rest)

-- both, for `grind`
pub ruleset scales = (rescaled-raise, rescaled-lower)

pub ruleset powers = (ten_pow_positive, ten_pow_small, ten_pow_short)

pub ruleset held = (held_fits, held_bound)
