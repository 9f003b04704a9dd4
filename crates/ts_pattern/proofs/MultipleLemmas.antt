-- The least common multiple, by the greatest common divisor.
use Rattle.std.proofs.Common.{◌≡◌, ℕ, zero, suc, ◌*◌, ◌/◌, ◌%◌, ◌+◌, ◌<◌, ◌≤◌, ◌==◌, true, false, inl, inr, arith, ap, sym, ◌∙◌, refl, subst}
use Rattle.std.specs.Int.{◌∣◌, IsGcd}
use Rattle.std.proofs.Math.Nat.{mod-add-div', mul-le-mul_right, le_of_mul-le-mul_right, dvd-mul_right, dvd-mul_left, dvd_of_mul-dvd-mul_right, mul-dvd-mul_left, dvd-mod_iff}
use Rattle.std.proofs.lemmas.Nat.Gcd.{mod-eq-zero_of_dvd, dvd_of_mod-eq-zero, le_of_dvd}
use Rattle.std.proofs.lemmas.Bool.{and_parts, cases_Bool, cases_lt}
use Rattle.std.proofs.lemmas.Bool.Decides.{nat_tests}
use Rattle.ts_pattern.specs.Patterns.{is_common_multiple, common_multiple_from, least_common_multiple}

-- a common multiple is one by both divisions
pub common_yes : (a b k : ℕ) → a ∣ k → b ∣ k → is_common_multiple a b k ≡ true
common_yes a b k by_a by_b =
    let left : k % a ≡ 0 = mod-eq-zero_of_dvd a by_a in
    let right : k % b ≡ 0 = mod-eq-zero_of_dvd b by_b in
    rw (left, right) refl

pub common_parts : (a b k : ℕ) → is_common_multiple a b k ≡ true → (a ∣ k) × (b ∣ k)
common_parts a b k h =
    let parts = and_parts (k % a == 0) (k % b == 0) h in
    let left : k % a ≡ 0 = grind (arith, nat_tests) in
    let right : k % b ≡ 0 = grind (arith, nat_tests) in
    (dvd_of_mod-eq-zero a left, dvd_of_mod-eq-zero b right)

-- the search finds a common multiple where one lies in its reach
from-common : (a b k more m : ℕ) → k ≤ m → m < k + more → is_common_multiple a b m ≡ true → is_common_multiple a b (common_multiple_from a b k more) ≡ true
unfolding common_multiple_from
from-common a b k zero m low high h = absurd (omega arith)
from-common a b k (suc more) m low high h = elim (cases_Bool (is_common_multiple a b k)) [
  | inl found ↦ rw found found
  | inr other ↦ rw other (from-common a b (k + 1) more m (later m k low h other) (omega arith) h)
]
  where
    later : (m k : ℕ) → k ≤ m → is_common_multiple a b m ≡ true → is_common_multiple a b k ≡ false → k + 1 ≤ m
    later m k low h other = elim (cases_lt k m) [
      | inl lt ↦ omega arith
      | inr ge ↦ let same : m ≡ k = omega arith in absurd (let found = ap (is_common_multiple a b) same in cc)
    ]

-- and no common multiple before it
from-least : (a b k more m : ℕ) → k ≤ m → is_common_multiple a b m ≡ true → common_multiple_from a b k more ≤ m
unfolding common_multiple_from
from-least a b k zero m low h = low
from-least a b k (suc more) m low h = elim (cases_Bool (is_common_multiple a b k)) [
  | inl found ↦ rw found low
  | inr other ↦ rw other (from-least a b (k + 1) more m (later m k low h other) h)
]
  where
    later : (m k : ℕ) → k ≤ m → is_common_multiple a b m ≡ true → is_common_multiple a b k ≡ false → k + 1 ≤ m
    later m k low h other = elim (cases_lt k m) [
      | inl lt ↦ omega arith
      | inr ge ↦ let same : m ≡ k = omega arith in absurd (let found = ap (is_common_multiple a b) same in cc)
    ]

from-low : (a b k more : ℕ) → k ≤ common_multiple_from a b k more
unfolding common_multiple_from
from-low a b k zero = omega arith
from-low a b k (suc more) = elim (cases_Bool (is_common_multiple a b k)) [
  | inl found ↦ rw found (omega arith)
  | inr other ↦ rw other (omega (arith, from-low a b (k + 1) more))
]

-- the least common multiple is one
pub least-common : (a b : ℕ) → 0 < a → 0 < b → is_common_multiple a b (least_common_multiple a b) ≡ true
unfolding least_common_multiple
least-common a b pa pb =
    let some : 1 ≤ a * b = positive_product a b pa pb in
    from-common a b 1 (a * b) (a * b) some (omega arith) (common_yes a b (a * b) (dvd-mul_right a b) (dvd-mul_left b a))
  where
    positive_product : (a b : ℕ) → 0 < a → 0 < b → 1 ≤ a * b
    positive_product a b pa pb = omega (arith, mul-le-mul_right b pa)

-- no common multiple is less
pub least-least : (a b m : ℕ) → 0 < m → is_common_multiple a b m ≡ true → least_common_multiple a b ≤ m
unfolding least_common_multiple
least-least a b m some h = from-least a b 1 (a * b) m some h

pub least-positive : (a b : ℕ) → 0 < least_common_multiple a b
unfolding least_common_multiple
least-positive a b = from-low a b 1 (a * b)

-- a multiple of both is one of the least
least-divides : (a b m : ℕ) → 0 < a → 0 < b → a ∣ m → b ∣ m → least_common_multiple a b ∣ m
least-divides a b m pa pb by_a by_b =
    let least = least_common_multiple a b in
    let common = common_parts a b least (least-common a b pa pb) in
    let rest = common_yes a b (m % least) ((dvd-mod_iff a common.0).1 by_a) ((dvd-mod_iff b common.1).1 by_b) in
    let some = least-positive a b in
    let small : m % least < least = omega arith in
    dvd_of_mod-eq-zero least (none (m % least) least small (λ more. least-least a b (m % least) more rest))
  where
    none : (r least : ℕ) → r < least → (0 < r → least ≤ r) → r ≡ 0
    none zero least small h = refl
    none (suc r) least small h = let le = h (omega arith) in absurd (omega arith)

-- a quotient without a rest
pub exact : (m d : ℕ) → d ∣ m → m / d * d ≡ m
exact m d h =
    let none = mod-eq-zero_of_dvd d h in
    omega (arith, mod-add-div' m d)

regroup : (x g b : ℕ) → x * b * g ≡ x * g * b
regroup x g b = omega arith

-- the product over the greatest common divisor
pub least-is : (a b g : ℕ) → 0 < a → 0 < b → IsGcd a b g → least_common_multiple a b ≡ a / g * b
least-is a b g pa pb gcd =
    let least = least_common_multiple a b in
    let number = a / g * b in
    let product : number * g ≡ a * b = regroup (a / g) g b ∙ ap (λ x. x * b) (exact a g gcd.0) in
    let common = common_parts a b least (least-common a b pa pb) in
    let d = a * b / least in
    let whole : d * least ≡ a * b = exact (a * b) least (least-divides a b (a * b) pa pb (dvd-mul_right a b) (dvd-mul_left b a)) in
    let by_a : d ∣ a = dvd_of_mul-dvd-mul_right {k = b} d pb (subst (λ x. d * b ∣ x) whole (mul-dvd-mul_left b d common.1)) in
    let by_b : d ∣ b = dvd_of_mul-dvd-mul_right {k = a} d pa (subst (λ x. d * a ∣ x) (whole ∙ swap a b) (mul-dvd-mul_left a d common.0)) in
    let divisor : d ≤ g = le_of_dvd (divisor-positive a g pa gcd.0) (gcd.2 d by_a by_b) in
    let some : 0 < number = factor-positive number g (a * b) product (omega (arith, mul-le-mul_right b pa)) in
    let other : number ≡ b / g * a = factors a b g gcd in
    let high : least ≤ number = least-least a b number some (common_yes a b number (subst (λ x. a ∣ x) (sym other) (dvd-mul_left a (b / g))) (dvd-mul_left b (a / g))) in
    let low : number ≤ least = le_of_mul-le-mul_right {m = number} {n = least} {k = g} (below number g least d (product ∙ sym whole) divisor) (divisor-positive a g pa gcd.0) in
    omega arith
  where
    swap : (a b : ℕ) → a * b ≡ b * a
    swap a b = omega arith

    divisor-positive : (a g : ℕ) → 0 < a → g ∣ a → 0 < g
    divisor-positive a zero pa h = absurd (omega (arith, exact a 0 h))
    divisor-positive a (suc g) pa h = omega arith

    factor-positive : (x g p : ℕ) → x * g ≡ p → 0 < p → 0 < x
    factor-positive zero g p e some = absurd (omega arith)
    factor-positive (suc x) g p e some = omega arith

    spread : (x y g : ℕ) → x * (y * g) ≡ y * (x * g)
    spread x y g = omega arith

    factors : (a b g : ℕ) → IsGcd a b g → a / g * b ≡ b / g * a
    factors a b g h = ap (λ x. a / g * x) (sym (exact b g h.1)) ∙ spread (a / g) (b / g) g ∙ ap (λ x. b / g * x) (exact a g h.0)

    below : (x g y d : ℕ) → x * g ≡ d * y → d ≤ g → x * g ≤ y * g
    below x g y d e h = omega (arith, mul-le-mul_right y h, swap g y)

-- it is no less than either
pub least-bounds : (a b : ℕ) → 0 < a → 0 < b → (a ≤ least_common_multiple a b) × (b ≤ least_common_multiple a b)
least-bounds a b pa pb =
    let common = common_parts a b (least_common_multiple a b) (least-common a b pa pb) in
    (le_of_dvd (least-positive a b) common.0, le_of_dvd (least-positive a b) common.1)

-- and a whole number of times either
pub least-rounds : (a b : ℕ) → 0 < a → 0 < b
    → (least_common_multiple a b ≡ least_common_multiple a b / a * a) × (least_common_multiple a b ≡ least_common_multiple a b / b * b)
least-rounds a b pa pb =
    let least = least_common_multiple a b in
    let common = common_parts a b least (least-common a b pa pb) in
    (sym (exact least a common.0), sym (exact least b common.1))
