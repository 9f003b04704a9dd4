-- A mean is the nearest whole number, and no other number is.
use Rattle.std.proofs.Common.{◌≡◌, ℕ, zero, suc, ◌+◌, ◌*◌, ◌/◌, ◌%◌, ◌<◌, ◌≤◌, true, false, ℤ, pos, negsuc, neg_ℤ, unsigned_abs, int_lt, mod-lt, refl, sym, ◌∙◌, ap, subst, arith, inl, inr}
use Rattle.std.specs.Prelude.{◌-ℤ◌, ◌*ℤ◌, ◌≤ℤ◌}
use Rattle.std.proofs.Math.Nat.{mul-le-mul_right}
use Rattle.std.proofs.lemmas.Bool.{cases_lt}
use Rattle.std.proofs.lemmas.Bool.Decides.{nat_tests}
use Rattle.std.proofs.lemmas.Int.{ints}
use Rattle.std.proofs.lemmas.Nat.{div-add-mod'}
use Rattle.ts_row.specs.Row.{with_sign}
use Rattle.ts_expr.specs.Aggregates.{rounded}
use Rattle.ts_expr.specs.Laws.{distance, IsNearestMean}

-- a size rounded from another: 2 * size + n = 2 * p + rest
near_size : (p n rest size : ℕ) → 2 * p + rest ≡ 2 * size + n → rest < 2 * n → 2 * unsigned_abs (pos p -ℤ pos size) ≤ n
near_size p n rest size is less = omega (arith, ints, is, less)

half_size : (p n rest size : ℕ) → 2 * p + rest ≡ 2 * size + n → rest < 2 * n → 2 * unsigned_abs (pos p -ℤ pos size) ≡ n → size ≤ p
half_size p n rest size is less half = omega (arith, ints, is, less, half)

-- of both signs
flipped : (q n k m : ℕ) → unsigned_abs (neg_ℤ (pos q) *ℤ pos n -ℤ negsuc k *ℤ pos m) ≡ unsigned_abs (pos (q * n) -ℤ pos (suc k * m))
flipped zero n k m = let none : 0 * n ≡ 0 = omega arith in rw none (omega (arith, ints))
flipped (suc q) n k m = omega (arith, ints)

sign_above : (k q : ℕ) → with_sign (pos k *ℤ pos 1_000_000) q ≡ pos q
sign_above k q = let no : int_lt (pos k *ℤ pos 1_000_000) (pos 0) ≡ false = grind (arith, ints, nat_tests) in rw no refl

sign_below : (k q : ℕ) → with_sign (negsuc k *ℤ pos 1_000_000) q ≡ neg_ℤ (pos q)
sign_below k q = let yes : int_lt (negsuc k *ℤ pos 1_000_000) (pos 0) ≡ true = grind (arith, ints, nat_tests) in rw yes refl

size_below : (q : ℕ) → unsigned_abs (neg_ℤ (pos q)) ≡ q
size_below q = omega (arith, ints)

-- nothing is rounded to nothing
none_of_none : (q n rest : ℕ) → 2 * (q * n) + rest ≡ n → rest < 2 * n → q ≡ 0
none_of_none zero n rest is less = refl
none_of_none (suc q) n rest is less = let one : suc q * n ≡ q * n + n = grind arith in absurd (omega (arith, is, less, one))

nearest_above : (k n q rest : ℕ) → 2 * (q * n) + rest ≡ 2 * (k * 1_000_000) + n → rest < 2 * n → IsNearestMean (pos k) n (pos q)
nearest_above k n q rest is less = record {
  near = near_size (q * n) n rest (k * 1_000_000) is less;
  half = λ half. half_size (q * n) n rest (k * 1_000_000) is less half;
  not_below_zero = λ _. omega (arith, ints);
  not_above_zero = λ le. let none : q ≡ 0 = none_of_none q n rest (omega (arith, ints, is, le)) less in omega (arith, ints, none);
}

nearest_below : (k n q rest : ℕ) → 2 * (q * n) + rest ≡ 2 * (suc k * 1_000_000) + n → rest < 2 * n →
    IsNearestMean (negsuc k) n (neg_ℤ (pos q))
nearest_below k n q rest is less = record {
  near = rw (flipped q n k 1_000_000) (near_size (q * n) n rest (suc k * 1_000_000) is less);
  half = λ half. rw (size_below q) (half_size (q * n) n rest (suc k * 1_000_000) is less (rw (sym (flipped q n k 1_000_000)) half));
  not_below_zero = λ le. absurd (omega (arith, ints, le));
  not_above_zero = λ _. omega (arith, ints);
}

-- the quotient and the remainder of the rounding
rounding : (n size : ℕ) → 2 * ((2 * size + n) / (2 * n) * n) + (2 * size + n) % (2 * n) ≡ 2 * size + n
rounding n size =
    let whole : (2 * size + n) / (2 * n) * (2 * n) + (2 * size + n) % (2 * n) ≡ 2 * size + n = div-add-mod' (2 * size + n) (2 * n) in
    let order : (q : ℕ) → q * (2 * n) ≡ 2 * (q * n) = λ q. grind arith in
    omega (arith, whole, order ((2 * size + n) / (2 * n)))

pub nearest : (t : ℤ) (n : ℕ) → 0 < n → IsNearestMean t n (rounded (t *ℤ pos 1_000_000) n)
nearest (pos k) n some =
    let q : ℕ = (2 * (k * 1_000_000) + n) / (2 * n) in
    rw (sign_above k q) (nearest_above k n q ((2 * (k * 1_000_000) + n) % (2 * n)) (rounding n (k * 1_000_000))
    (mod-lt (2 * (k * 1_000_000) + n) (omega (arith, some))))
nearest (negsuc k) n some =
    let q : ℕ = (2 * (suc k * 1_000_000) + n) / (2 * n) in
    let size : unsigned_abs (negsuc k *ℤ pos 1_000_000) ≡ suc k * 1_000_000 = size_below (suc k * 1_000_000) in
    rw size (rw (sign_below k q) (nearest_below k n q ((2 * (suc k * 1_000_000) + n) % (2 * n)) (rounding n (suc k * 1_000_000))
    (mod-lt (2 * (suc k * 1_000_000) + n) (omega (arith, some)))))

-- of two sizes that are nearest to another neither is less

more_times : (a b n : ℕ) → a < b → a * n + n ≤ b * n
more_times a b n less =
    let more : (a + 1) * n ≤ b * n = mul-le-mul_right n (omega (arith, less)) in
    let one : (a + 1) * n ≡ a * n + n = grind arith in
    omega (arith, more, one)

not_less : (a b n size : ℕ) → 0 < n → 2 * unsigned_abs (pos (a * n) -ℤ pos size) ≤ n →
    (2 * unsigned_abs (pos (a * n) -ℤ pos size) ≡ n → size ≤ a * n) →
    2 * unsigned_abs (pos (b * n) -ℤ pos size) ≤ n → b ≤ a
not_less a b n size some near half other = elim (cases_lt a b) [
  | inl less ↦
      let more : a * n + n ≤ b * n = more_times a b n less in
      let exact : 2 * unsigned_abs (pos (a * n) -ℤ pos size) ≡ n = omega (arith, ints, more, near, other) in
      let up : size ≤ a * n = half exact in
      absurd (omega (arith, ints, more, near, other, up, some))
  | inr le ↦ le
]

one_above : (k n a b : ℕ) → 0 < n → IsNearestMean (pos k) n (pos a) → IsNearestMean (pos k) n (pos b) → b ≤ a
one_above k n a b some f g = not_less a b n (k * 1_000_000) some f.near f.half g.near

one_below : (k n a b : ℕ) → 0 < n → IsNearestMean (negsuc k) n (neg_ℤ (pos a)) → IsNearestMean (negsuc k) n (neg_ℤ (pos b)) → b ≤ a
one_below k n a b some f g =
    let same : (q : ℕ) → distance (negsuc k) n (neg_ℤ (pos q)) ≡ unsigned_abs (pos (q * n) -ℤ pos (suc k * 1_000_000)) =
    λ q. flipped q n k 1_000_000 in
    not_less a b n (suc k * 1_000_000) some (rw (sym (same a)) f.near) (λ half. rw (sym (size_below a)) (f.half (rw (same a) half)))
    (rw (sym (same b)) g.near)

signed_above : (z : ℤ) → pos 0 ≤ℤ z → z ≡ pos (unsigned_abs z)
signed_above z le = omega (arith, ints, le)

signed_below : (z : ℤ) → z ≤ℤ pos 0 → z ≡ neg_ℤ (pos (unsigned_abs z))
signed_below z le = omega (arith, ints, le)

pub only : (t : ℤ) (n : ℕ) (z w : ℤ) → 0 < n → IsNearestMean t n z → IsNearestMean t n w → z ≡ w
only (pos k) n z w some f g =
    let left : z ≡ pos (unsigned_abs z) = signed_above z (f.not_below_zero (omega (arith, ints))) in
    let right : w ≡ pos (unsigned_abs w) = signed_above w (g.not_below_zero (omega (arith, ints))) in
    let above : IsNearestMean (pos k) n (pos (unsigned_abs z)) = subst (λ x. IsNearestMean (pos k) n x) left f in
    let other : IsNearestMean (pos k) n (pos (unsigned_abs w)) = subst (λ x. IsNearestMean (pos k) n x) right g in
    let same : unsigned_abs z ≡ unsigned_abs w =
    omega (
      arith,
      one_above k n (unsigned_abs z) (unsigned_abs w) some above other,
      one_above k n (unsigned_abs w)
          (unsigned_abs z) some other above,
    ) in
    left ∙ ap (λ (m : ℕ). pos m) same ∙ sym right
only (negsuc k) n z w some f g =
    let left : z ≡ neg_ℤ (pos (unsigned_abs z)) = signed_below z (f.not_above_zero (omega (arith, ints))) in
    let right : w ≡ neg_ℤ (pos (unsigned_abs w)) = signed_below w (g.not_above_zero (omega (arith, ints))) in
    let below : IsNearestMean (negsuc k) n (neg_ℤ (pos (unsigned_abs z))) = subst (λ x. IsNearestMean (negsuc k) n x) left f in
    let other : IsNearestMean (negsuc k) n (neg_ℤ (pos (unsigned_abs w))) = subst (λ x. IsNearestMean (negsuc k) n x) right g in
    let same : unsigned_abs z ≡ unsigned_abs w =
    omega (
      arith,
      one_below k n (unsigned_abs z) (unsigned_abs w) some below other,
      one_below k n (unsigned_abs w)
          (unsigned_abs z) some other below,
    ) in
    left ∙ ap (λ (m : ℕ). neg_ℤ (pos m)) same ∙ sym right
