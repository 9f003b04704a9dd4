-- How large the number of a token is.
use Rattle.std.proofs.Common.{◌≡◌, ℕ, ◌+◌, ◌-◌, ◌*◌, ◌^◌, ◌<◌, ◌≤◌, true, List, length, take, slice_index_or, arith, cond, [], ◌∷◌, filter, refl, ap}
use Rattle.std.proofs.lemmas.Bool.{and_parts}
use Rattle.ts_base.specs.Moment.{all_digits}
use Rattle.std.proofs.Math.Nat.{pow-le-pow_right}
use Rattle.std.proofs.lemmas.Grind.{pow_more}
use Rattle.std.proofs.lemmas.List.Sums.{sum_by_more_le, sum_by-take-le, count_by-le-length}
use Rattle.std.specs.Char.{is_ascii_digit}
use Rattle.ts_text.specs.Phrase.{digit_count}

-- one digit more keeps a number of less than 38 digits below the limit
pub digit_room : (n : ℕ) (s : List ℕ) (i : ℕ) → n < 10 ^ digit_count (take i s) → digit_count s ≤ 38 → i < length s → is_ascii_digit (slice_index_or s i 0) ≡ true → slice_index_or s i 0 ≤ 57 →
    n * 10 + (slice_index_or s i 0 - 48) < 10 ^ 38
digit_room n s i below most within digit nine =
    let k : ℕ = digit_count (take i s) in
    let counted = sum_by_more_le (λ (x : ℕ). cond (is_ascii_digit x) 1 0) s i 0 within in
    let more : k + 1 ≤ 38 = let one = rw digit at counted in omega arith in
    let small : 10 ^ (k + 1) ≤ 10 ^ 38 = pow-le-pow_right {n = 10} (omega arith) {i = k + 1} {j = 38} more in
    omega (arith, small, pow_more 10 k)

-- a number of at most 38 digits is below the limit
pub whole_room : (n : ℕ) (s : List ℕ) (i : ℕ) → n < 10 ^ digit_count (take i s) → digit_count s ≤ 38 → n < 10 ^ 38
whole_room n s i below most =
    let part = sum_by-take-le (λ (x : ℕ). cond (is_ascii_digit x) 1 0) s i in
    let small : 10 ^ digit_count (take i s) ≤ 10 ^ 38 = pow-le-pow_right {n = 10} (omega arith) {i = digit_count (take i s)} {j = 38} (omega arith) in
    omega (arith, small)

-- a number of at most three digits is below 1000
pub few_room : (n : ℕ) (s : List ℕ) → n < 10 ^ digit_count s → length s ≤ 3 → n < 1000
few_room n s below few =
    let small : 10 ^ digit_count s ≤ 10 ^ 3 = pow-le-pow_right {n = 10} (omega arith) {i = digit_count s} {j = 3} (omega (arith, count_by-le-length is_ascii_digit s)) in
    omega (arith, small)

-- a number of at most nine digits is below their limit
pub nine_room : (n : ℕ) (s : List ℕ) → n < 10 ^ digit_count s → length s ≤ 9 → n < 10 ^ 9
nine_room n s below few =
    let small : 10 ^ digit_count s ≤ 10 ^ 9 = pow-le-pow_right {n = 10} (omega arith) {i = digit_count s} {j = 9} (omega (arith, count_by-le-length is_ascii_digit s)) in
    omega (arith, small)

-- a number of at most ten digits is below theirs
pub ten_room : (n : ℕ) (s : List ℕ) → n < 10 ^ digit_count s → length s ≤ 10 → n < 10 ^ 10
ten_room n s below few =
    let small : 10 ^ digit_count s ≤ 10 ^ 10 = pow-le-pow_right {n = 10} (omega arith) {i = digit_count s} {j = 10} (omega (arith, count_by-le-length is_ascii_digit s)) in
    omega (arith, small)

-- no more digits than bytes
pub digits-le : (s : List ℕ) → digit_count s ≤ length s
digits-le s = count_by-le-length is_ascii_digit s

-- digits alone are all kept
pub digits_kept : (s : List ℕ) → all_digits s ≡ true → filter is_ascii_digit s ≡ s
digits_kept [] all = refl
digits_kept (b ∷ s) all =
    let parts = and_parts (is_ascii_digit b) (all_digits s) all in
    rw parts.0 (ap (λ (l : List ℕ). b ∷ l) (digits_kept s parts.1))
