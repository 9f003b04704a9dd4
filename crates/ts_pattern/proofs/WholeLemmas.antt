-- Quotients and remainders of whole numbers, of which a divisor is positive.
use Rattle.std.proofs.Common.{◌≡◌, ℕ, ◌+◌, ◌-◌, ◌*◌, ◌/◌, ◌%◌, ◌<◌, ◌≤◌, refl, sym, ap, ◌∙◌, arith, ℤ, pos, negsuc, ◌+ℤ◌, unsigned_abs}
use Rattle.std.specs.Int.{int_div_euclid, int_rem_euclid}
use Rattle.std.proofs.Math.Nat.{mod-add-div', add-mul-mod_self_right, mod-add-mod, add-mod-mod, mul-le-mul_right}
use Rattle.std.proofs.Math.Arith.{mod-mul}
use Rattle.std.proofs.lemmas.Nat.{div-mul-add, mod-mul-add}
use Rattle.std.proofs.lemmas.Int.{int_rem_euclid_is, ints}

-- the place of a whole number within its round of n
abbrev pub place : ℤ → ℕ → ℕ
place z n = unsigned_abs (int_rem_euclid z (pos n))

-- some rounds later a whole number is a natural one
record IsRaised (z : ℤ) (n : ℕ) : Type 0 where
  rounds : ℕ
  natural : ℕ
  same : z +ℤ pos (rounds * n) ≡ pos natural

raised : (z : ℤ) (n : ℕ) → 0 < n → IsRaised z n
raised (pos a) n h = record { rounds = 0; natural = a; same = omega (arith, ints) }
raised (negsuc a) n h =
    let many : 1 * (a + 1) ≤ n * (a + 1) = mul-le-mul_right (a + 1) h in
    let turned : n * (a + 1) ≡ (a + 1) * n = omega arith in
    record { rounds = a + 1; natural = (a + 1) * n - (a + 1); same = omega (arith, ints) }

-- the place by a natural number some rounds later
place_is : (z : ℤ) (n rounds natural : ℕ) → 0 < n → z +ℤ pos (rounds * n) ≡ pos natural → place z n ≡ natural % n
place_is z n rounds natural h e = ap unsigned_abs (int_rem_euclid_is z (pos n) n rounds natural h refl e)

-- a place is within the round
pub place-lt : (z : ℤ) (n : ℕ) → 0 < n → place z n < n
place-lt (pos a) n h = omega arith
place-lt (negsuc a) n h = omega arith

-- the place of a natural number in the first round
pub place-early : (i n : ℕ) → i < n → place (pos i) n ≡ i
place-early i n h =
    let whole : i ≡ 0 * n + i = omega arith in
    ap (λ x. x % n) whole ∙ mod-mul-add 0 n i h

-- k places on
pub place-after : (s : ℤ) (k n : ℕ) → 0 < n → place (pos k +ℤ s) n ≡ (place s n + k) % n
place-after s k n h =
    let r = raised s n h in
    let moved : pos k +ℤ s +ℤ pos (r.rounds * n) ≡ pos (r.natural + k) = omega (arith, ints, r.same) in
    place_is (pos k +ℤ s) n r.rounds (r.natural + k) h moved
    ∙ sym (ap (λ x. (x + k) % n) (place_is s n r.rounds r.natural h r.same) ∙ mod-add-mod r.natural n k)

mod-multiple : (k n t q : ℕ) → n ≡ q * t → k % n % t ≡ k % t
mod-multiple k n t q e =
    let whole = mod-add-div' k n in
    let regroup : k / n * n ≡ k / n * q * t = ap (λ x. k / n * x) e ∙ assoc (k / n) q t in
    let split : k ≡ k % n + k / n * q * t = omega (arith, whole, regroup) in
    sym (ap (λ x. x % t) split ∙ add-mul-mod_self_right (k % n) (k / n * q) t)
  where
    assoc : (a b c : ℕ) → a * (b * c) ≡ a * b * c
    assoc a b c = omega arith

-- the place in rounds of t is kept by whole rounds of n, where n is so many rounds of t
pub place-in_rounds : (k s : ℤ) (n t q : ℕ) → 0 < n → 0 < t → n ≡ q * t → place (pos (place k n) +ℤ s) t ≡ place (k +ℤ s) t
place-in_rounds k s n t q pn pt e =
    let long = raised k n pn in
    let short = raised s t pt in
    let regroup : (long.rounds * q + short.rounds) * t ≡ long.rounds * n + short.rounds * t =
    spread long.rounds q short.rounds t ∙ ap (λ x. long.rounds * x + short.rounds * t) (sym e) in
    let moved : k +ℤ s +ℤ pos ((long.rounds * q + short.rounds) * t) ≡ pos (short.natural + long.natural) =
    omega (arith, ints, long.same, short.same, regroup) in
    place-after s (place k n) t pt
    ∙ ap (λ x. (x + place k n) % t) (place_is s t short.rounds short.natural pt short.same)
    ∙ mod-add-mod short.natural t (place k n)
    ∙ ap (λ x. (short.natural + x) % t) (place_is k n long.rounds long.natural pn long.same)
    ∙ sym (add-mod-mod short.natural (long.natural % n) t)
    ∙ ap (λ x. (short.natural + x) % t) (mod-multiple long.natural n t q e)
    ∙ add-mod-mod short.natural long.natural t
    ∙ sym (place_is (k +ℤ s) t (long.rounds * q + short.rounds) (short.natural + long.natural) pt moved)
  where
    spread : (a q b t : ℕ) → (a * q + b) * t ≡ a * (q * t) + b * t
    spread a q b t = omega arith

-- the place among parts, over the number of parts in each, is the place of the quotient
pub place-over : (z : ℤ) (t f : ℕ) → 0 < t → 0 < f → place z (t * f) / f ≡ place (int_div_euclid z (pos f)) t
place-over (pos a) t f pt pf =
    let parts = mod-mul a {m = t} {c = f} pt pf in
    let rest : a % f < f = omega arith in
    ap (λ x. x / f) parts ∙ div-mul-add (a / f % t) f (a % f) rest
place-over (negsuc a) t f pt pf =
    let parts = mod-mul a {m = t} {c = f} pt pf in
    let rest : a % f < f = omega arith in
    let quotient : a / f % t < t = omega arith in
    let split : t ≡ a / f % t + 1 + (t - 1 - a / f % t) = omega arith in
    let whole : t * f ≡ (a / f % t) * f + f + (t - 1 - a / f % t) * f =
    ap (λ x. x * f) split ∙ spread (a / f % t) (t - 1 - a / f % t) f in
    let turned : t * f - 1 - a % (t * f) ≡ (t - 1 - a / f % t) * f + (f - 1 - a % f) = omega (arith, parts, whole) in
    let small : f - 1 - a % f < f = omega arith in
    ap (λ x. x / f) turned ∙ div-mul-add (t - 1 - a / f % t) f (f - 1 - a % f) small
  where
    spread : (q e f : ℕ) → (q + 1 + e) * f ≡ q * f + f + e * f
    spread q e f = omega arith
