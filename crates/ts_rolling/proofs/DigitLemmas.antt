-- Numbers in so many digits, with zeros in front.
use Rattle.std.proofs.Common.{◌≡◌, ℕ, zero, suc, ◌+◌, ◌-◌, ◌*◌, ◌/◌, ◌%◌, ◌^◌, ◌<◌, ◌≤◌, Fits, w64, true, false, ◌&&◌, List, [], ◌∷◌, length, get_or, IsTrue, refl, sym, ap, ◌∙◌, arith, lit<, inl, inr}
use Rattle.std.proofs.Math.Nat.{pow-suc, pow-le-pow_right, mul-le-mul_right}
use Rattle.std.proofs.lemmas.Nat.{div-mul-add, mod-mul-add, div-add-mod', div_below, mod_below}
use Rattle.std.proofs.lemmas.Grind.{pow_more}
use Rattle.std.proofs.lemmas.Bool.{and_parts, cases_lt}
use Rattle.std.proofs.lemmas.Bool.Decides.{nat_tests}
use Rattle.std.proofs.lemmas.List.Folds.{list_all_at}
use Rattle.std.specs.List.{fold}
use Rattle.std.specs.Char.{is_ascii_digit}
use Rattle.std.specs.Ordering.{nat_cmp, ordering_then, MatchOrdering}
use Rattle.std.specs.declared.cmp.Ordering.{Ordering}
use Rattle.std.specs.declared.cmp.Ordering.TheVariants.{Less, Equal, Greater}
use Rattle.std.specs.Cmp.{nat_cmp_is, ranks}
use Rattle.std.specs.Cmp.Lexicographic.{slice_cmp}
use Rattle.ts_base.specs.Moment.{all_digits, number_of, with_digit}
use Rattle.ts_rolling.specs.Sets.{digits_of}

pub power_pos : (w : ℕ) → 0 < 10 ^ w
power_pos zero = lit< tt
power_pos (suc w) = omega (arith, pow-suc 10 w, power_pos w)

-- so many digits are so many
pub length-digits_of : (w n : ℕ) → length (digits_of w n) ≡ w
unfolding digits_of
length-digits_of zero n = refl
length-digits_of (suc w) n = ap suc (length-digits_of w (n % 10 ^ w))

-- no digits are left
pub digits_of-none : (n : ℕ) → digits_of 0 n ≡ []
unfolding digits_of
digits_of-none n = refl

-- one digit, and the others
pub digits_of-more : (w n : ℕ) → 0 < w → digits_of w n ≡ (48 + n / 10 ^ (w - 1)) ∷ digits_of (w - 1) (n % 10 ^ (w - 1))
unfolding digits_of
digits_of-more zero n h = absurd (omega (arith, h))
digits_of-more (suc w) n h =
    let less : suc w - 1 ≡ w = omega arith in
    sym (λ i. (48 + n / 10 ^ less i) ∷ digits_of (less i) (n % 10 ^ less i))

-- the number of more digits, from a number on
fold-from : (s : List ℕ) (a : ℕ) → fold with_digit a s ≡ a * 10 ^ length s + number_of s
fold-from [] a = omega arith
fold-from (c ∷ s) a =
    let p = 10 ^ length s in
    let d = c - 48 in
    let here : fold with_digit a (c ∷ s) ≡ (a * 10 + d) * p + number_of s = fold-from s (a * 10 + d) in
    let zeroth : number_of (c ∷ s) ≡ (0 * 10 + d) * p + number_of s = fold-from s (0 * 10 + d) in
    let none : (0 * 10 + d) * p ≡ d * p = ap (λ k. k * p) (no_tens d) in
    let power : a * 10 ^ length (c ∷ s) ≡ a * (p * 10) = ap (λ k. a * k) (pow-suc 10 (length s)) in
    omega (arith, here, zeroth, none, power, spread a d p)
  where
    spread : (a d p : ℕ) → (a * 10 + d) * p ≡ a * (p * 10) + d * p
    spread a d p = omega arith

    no_tens : (d : ℕ) → 0 * 10 + d ≡ d
    no_tens d = omega arith

-- the number that a digit and more digits write
number_of-cons : (c : ℕ) (s : List ℕ) → number_of (c ∷ s) ≡ (c - 48) * 10 ^ length s + number_of s
number_of-cons c s =
    let none : 0 * 10 + (c - 48) ≡ c - 48 = omega arith in
    fold-from s (0 * 10 + (c - 48)) ∙ ap (λ k. k * 10 ^ length s + number_of s) none

-- what so many digits of a number write is the number
pub number_of-digits_of : (w n : ℕ) → n < 10 ^ w → number_of (digits_of w n) ≡ n
unfolding digits_of
number_of-digits_of zero n h = omega (arith, h)
number_of-digits_of (suc w) n h =
    let p = 10 ^ w in
    let rest = number_of-digits_of w (n % p) (mod_below n p (power_pos w)) in
    number_of-cons (48 + n / p) (digits_of w (n % p))
    ∙ ap (λ k. (48 + n / p - 48) * 10 ^ k + number_of (digits_of w (n % p))) (length-digits_of w (n % p))
    ∙ ap (λ k. (48 + n / p - 48) * p + k) rest
    ∙ ap (λ k. k * p + n % p) (up_down (n / p))
    ∙ div-add-mod' n p
  where
    up_down : (q : ℕ) → 48 + q - 48 ≡ q
    up_down q = omega arith

not_digit : (c : ℕ) → 57 < c → is_ascii_digit c ≡ false
not_digit c h = grind (arith, nat_tests)

digit_bounds : (c : ℕ) → is_ascii_digit c ≡ true → (48 ≤ c) × (c ≤ 57)
digit_bounds c h = (grind (arith, nat_tests), grind (arith, nat_tests))

-- a byte of digits is at most `9`
pub digit_at : (s : List ℕ) (i : ℕ) → IsTrue (all_digits s) → i < length s → get_or s i 0 ≤ 57
digit_at s i h lt =
    elim (cases_lt 57 (get_or s i 0)) [
      | inl over ↦ let no = list_all_at is_ascii_digit s i 0 lt (not_digit _ over) in cc
      | inr le ↦ le
    ]

-- one digit more keeps a number of at most twelve digits in 64 bits
pub digit_room : (n i len c : ℕ) → n < 10 ^ i → i < len → len ≤ 12 → c ≤ 57 → Fits w64 (n * 10) × Fits w64 (n * 10 + (c - 48)) × (n * 10 + (c - 48) < 10 ^ (i + 1))
digit_room n i len c h lt short digit =
    let small : 10 ^ i ≤ 10 ^ 11 = pow-le-pow_right {n = 10} (omega arith) {i = i} {j = 11} (omega arith) in
    let next : 10 ^ (i + 1) ≡ 10 ^ i * 10 = pow_more 10 i in
    (omega (arith, small, next), omega (arith, small, next), omega (arith, small, next))

-- so many digits write a number below the power
pub number_of-below : (s : List ℕ) → all_digits s ≡ true → number_of s < 10 ^ length s
number_of-below [] h = lit< tt
number_of-below (c ∷ s) h =
    let p = 10 ^ length s in
    let both = and_parts (is_ascii_digit c) (all_digits s) h in
    let digit = digit_bounds c both.0 in
    let rest = number_of-below s both.1 in
    let is = number_of-cons c s in
    let power : 10 ^ suc (length s) ≡ p * 10 = pow-suc 10 (length s) in
    let most : (c - 48) * p ≤ 9 * p = times_le (c - 48) 9 p (omega arith) in
    omega (arith, rest, is, power, most)
  where
    times_le : (a b p : ℕ) → a ≤ b → a * p ≤ b * p
    times_le a b p le = mul-le-mul_right p le

-- digits are those of the number that they write
pub digits_of-number_of : (s : List ℕ) → all_digits s ≡ true → digits_of (length s) (number_of s) ≡ s
unfolding digits_of
digits_of-number_of [] h = refl
digits_of-number_of (c ∷ s) h =
    let p = 10 ^ length s in
    let both = and_parts (is_ascii_digit c) (all_digits s) h in
    let digit = digit_bounds c both.0 in
    let below = number_of-below s both.1 in
    let first : number_of (c ∷ s) / p ≡ c - 48 = ap (λ k. k / p) (number_of-cons c s) ∙ div-mul-add (c - 48) p (number_of s) below in
    let rest : number_of (c ∷ s) % p ≡ number_of s = ap (λ k. k % p) (number_of-cons c s) ∙ mod-mul-add (c - 48) p (number_of s) below in
    let back : 48 + (c - 48) ≡ c = omega (arith, digit) in
    let byte : 48 + number_of (c ∷ s) / p ≡ c = ap (λ k. 48 + k) first ∙ back in
    λ i. byte i ∷ (ap (digits_of (length s)) rest ∙ digits_of-number_of s both.1) i

-- digits of a number are digits
pub all_digits-digits_of : (w n : ℕ) → n < 10 ^ w → all_digits (digits_of w n) ≡ true
unfolding digits_of
all_digits-digits_of zero n h = refl
all_digits-digits_of (suc w) n h =
    let p = 10 ^ w in
    let power : 10 ^ suc w ≡ p * 10 = pow-suc 10 w in
    let one : n / p < 10 = div_below n p 10 (power_pos w) (omega (arith, h, power)) in
    let first : is_ascii_digit (48 + n / p) ≡ true = grind (arith, nat_tests) in
    let rest = all_digits-digits_of w (n % p) (mod_below n p (power_pos w)) in
    ap (λ b. b && all_digits (digits_of w (n % p))) first ∙ rest

-- the first digit that differs decides, and it is that of the quotients
decided : (p a b : ℕ) → 0 < p → ordering_then (nat_cmp (48 + a / p) (48 + b / p)) (nat_cmp (a % p) (b % p)) ≡ nat_cmp a b
decided p a b pos =
    let q = 48 + a / p in
    let r = 48 + b / p in
    let from : a / p * p + a % p ≡ a = div-add-mod' a p in
    let to : b / p * p + b % p ≡ b = div-add-mod' b p in
    let low : a % p < p = mod_below a p pos in
    let high : b % p < p = mod_below b p pos in
    elim (nat_cmp q r) as (λ o. MatchOrdering o (q < r) (q ≡ r) (r < q) → ordering_then o (nat_cmp (a % p) (b % p)) ≡ nat_cmp a b) [
      | Less ↦ λ lt. nat_cmp_is a b Less (less_by (a / p) (b / p) (a % p) (b % p) p a b from to low (omega (arith, lt)))
      | Equal ↦ λ same. sym (nat_cmp_is (a % p) (b % p) (nat_cmp a b) (alike (a / p) (b / p) (a % p) (b % p) p a b from to (omega (arith, same)) (nat_cmp a b) (ranks a b)))
      | Greater ↦ λ gt. nat_cmp_is a b Greater (less_by (b / p) (a / p) (b % p) (a % p) p b a to from high (omega (arith, gt)))
    ] (ranks q r)
  where
    less_by : (q r x y p a b : ℕ) → q * p + x ≡ a → r * p + y ≡ b → x < p → q < r → a < b
    less_by q r x y p a b from to low lt =
        let more : (q + 1) * p ≤ r * p = mul-le-mul_right p (omega (arith, lt)) in
        let step : (q + 1) * p ≡ q * p + p = omega arith in
        omega (arith, from, to, low, more, step)

    alike : (q r x y p a b : ℕ) → q * p + x ≡ a → r * p + y ≡ b → q ≡ r → (o : Ordering) → MatchOrdering o (a < b) (a ≡ b) (b < a) → MatchOrdering o (x < y) (x ≡ y) (y < x)
    alike q r x y p a b from to same Less h = omega (arith, from, to, h, ap (λ k. k * p) same)
    alike q r x y p a b from to same Equal h = omega (arith, from, to, h, ap (λ k. k * p) same)
    alike q r x y p a b from to same Greater h = omega (arith, from, to, h, ap (λ k. k * p) same)

-- the order of so many digits is that of the numbers
pub digits_cmp : (w a b : ℕ) → a < 10 ^ w → b < 10 ^ w → slice_cmp nat_cmp (digits_of w a) (digits_of w b) ≡ nat_cmp a b
unfolding digits_of
digits_cmp zero a b h g = nat_cmp_is a b Equal (omega (arith, h, g))
digits_cmp (suc w) a b h g =
    let p = 10 ^ w in
    ap (ordering_then (nat_cmp (48 + a / p) (48 + b / p))) (digits_cmp w (a % p) (b % p) (mod_below a p (power_pos w)) (mod_below b p (power_pos w)))
    ∙ decided p a b (power_pos w)
