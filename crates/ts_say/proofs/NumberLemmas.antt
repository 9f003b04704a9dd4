-- The digits after a point are those of a number behind a one.
use Rattle.std.proofs.Common.{◌≡◌, ℕ, zero, suc, ◌+◌, ◌-◌, ◌*◌, ◌/◌, ◌%◌, ◌^◌, ◌<◌, ◌≤◌, ◌≢◌, ◌==◌, false, List, [], ◌∷◌, ◌++◌, length, take, drop, refl, sym, ap, subst, ◌∙◌, append_assoc, length-append, arith, lit<}
use Rattle.std.specs.Fmt.{decimal}
use Rattle.std.proofs.lemmas.Fmt.{decimal_digit, decimal_step_wide}
use Rattle.std.proofs.lemmas.List.{take_all, take-append-le}
use Rattle.std.proofs.Math.Seq.{take-append-add}
use Rattle.std.proofs.lemmas.Nat.{div-mul-add, mod-mul-add, div-add-mod', pow-add}
use Rattle.std.proofs.lemmas.Bool.Decides.{nat_tests}
use Rattle.std.proofs.Math.Nat.{pow-suc, pow-le-pow_right, mod-eq_of_lt, mul-lt-mul_of_pos_right}
use Rattle.ts_base.specs.Moment.{two_digits}
use Rattle.ts_row.specs.Row.{last_digits, size_text}
use Rattle.ts_row.proofs.LiteralLemmas.{ten_pow_positive}

-- a number in its tens and its last digit, and what is left of it behind a one, likewise
tens : (k q a d n : ℕ) → n ≡ q * (k * 10) + (a * 10 + d) → a < k → d < 10
    → ((k * 10 + (a * 10 + d)) / 10 ≡ k + n / 10 % k) × ((k * 10 + (a * 10 + d)) % 10 ≡ n % 10)
tens k q a d n is less digit =
    let whole : n ≡ (q * k + a) * 10 + d = omega arith in
    let tenth : n / 10 ≡ q * k + a = ap (λ m. m / 10) whole ∙ div-mul-add (q * k + a) 10 d digit in
    let last : n % 10 ≡ d = ap (λ m. m % 10) whole ∙ mod-mul-add (q * k + a) 10 d digit in
    let left : n / 10 % k ≡ a = ap (λ m. m % k) tenth ∙ mod-mul-add q k a less in
    let behind : k * 10 + (a * 10 + d) ≡ (k + a) * 10 + d = omega arith in (
      ap (λ m. m / 10) behind ∙ div-mul-add (k + a) 10 d digit ∙ ap (λ m. k + m) (sym left),
      ap (λ m. m % 10) behind ∙ mod-mul-add (k + a) 10 d digit ∙ sym last,
    )

tens_left : (k n : ℕ) → 0 < k → ((k * 10 + n % (k * 10)) / 10 ≡ k + n / 10 % k) × ((k * 10 + n % (k * 10)) % 10 ≡ n % 10)
tens_left k n above =
    let r : n % (k * 10) ≡ n % (k * 10) / 10 * 10 + n % (k * 10) % 10 = sym (div-add-mod' (n % (k * 10)) 10) in
    let below : n % (k * 10) < k * 10 = omega arith in
    let whole : n ≡ n / (k * 10) * (k * 10) + (n % (k * 10) / 10 * 10 + n % (k * 10) % 10) =
    sym (div-add-mod' n (k * 10)) ∙ ap (λ m. n / (k * 10) * (k * 10) + m) r in
    let both = tens k (n / (k * 10)) (n % (k * 10) / 10) (n % (k * 10) % 10) n whole (omega arith) (omega arith) in
    (ap (λ m. (k * 10 + m) / 10) r ∙ both.0, ap (λ m. (k * 10 + m) % 10) r ∙ both.1)

-- the last digits of a number, written behind a one
behind_one : (s n : ℕ) → s ≤ 34 → decimal (10 ^ s + n % 10 ^ s) ≡ 49 ∷ last_digits s n
behind_one zero n few = ap (λ m. decimal (1 + m)) (let none : n % 1 ≡ 0 = omega arith in none) ∙ decimal_digit 1 (lit< tt)
behind_one (suc s) n few =
    let power : 10 ^ suc s ≡ 10 ^ s * 10 = pow-suc 10 s in
    let above : 0 < 10 ^ s = ten_pow_positive s in
    let top : 10 ^ s ≤ 10 ^ 33 = pow-le-pow_right (lit< tt) {i = s} {j = 33} (omega arith) in
    let wide : 10 ^ 33 * 20 < 10 ^ 64 = lit< tt in
    let split = tens_left (10 ^ s) n above in
    let below : n % (10 ^ s * 10) < 10 ^ s * 10 = omega arith in
    ap (λ m. decimal (m + n % m)) power
    ∙ decimal_step_wide (10 ^ s * 10 + n % (10 ^ s * 10)) (omega arith) (omega arith)
    ∙ (λ j. decimal (split.0 j) ++ (48 + split.1 j) ∷ [])
    ∙ ap (λ l. l ++ (48 + n % 10) ∷ []) (behind_one s (n / 10) (omega arith))

-- it has 64 bits where the digits are at most 18, and 128 bits where they are at most 34
pub behind_short : (s n : ℕ) → s ≤ 18 → 10 ^ s + n % 10 ^ s < 2 ^ 64
behind_short s n few =
    let above : 0 < 10 ^ s = ten_pow_positive s in
    let top : 10 ^ s ≤ 10 ^ 18 = pow-le-pow_right (lit< tt) {i = s} {j = 18} few in
    let wide : 10 ^ 18 * 2 < 2 ^ 64 = lit< tt in
    let left : n % 10 ^ s < 10 ^ s = omega arith in
    omega arith

pub behind_long : (s n : ℕ) → s ≤ 34 → 10 ^ s + n % 10 ^ s < 2 ^ 128
behind_long s n few =
    let above : 0 < 10 ^ s = ten_pow_positive s in
    let top : 10 ^ s ≤ 10 ^ 34 = pow-le-pow_right (lit< tt) {i = s} {j = 34} few in
    let wide : 10 ^ 34 * 2 < 2 ^ 128 = lit< tt in
    let left : n % 10 ^ s < 10 ^ s = omega arith in
    omega arith

-- a number is what stands before the point, the point, and what stands behind a one
size_parts : (s n : ℕ) → s ≢ 0 → s ≤ 34 → size_text s n ≡ decimal (n / 10 ^ s) ++ 46 ∷ drop 1 (decimal (10 ^ s + n % 10 ^ s))
size_parts zero n some few = absurd (some refl)
size_parts (suc s) n some few =
    let point : (suc s == 0) ≡ false = grind (arith, nat_tests) in
    rw (behind_one (suc s) n few, point) refl

-- so it is said by parts
pub said_parts : (s n one : ℕ) (old new : List ℕ) → one ≡ 10 ^ s → s ≢ 0 → s ≤ 34
    → new ≡ old ++ decimal (n / one) ++ 46 ∷ drop 1 (decimal (one + n % one)) → new ≡ old ++ size_text s n
said_parts s n one old new power some few is =
    is ∙ ap (λ k. old ++ decimal (n / k) ++ 46 ∷ drop 1 (decimal (k + n % k))) power
    ∙ append_assoc old (decimal (n / 10 ^ s)) (46 ∷ drop 1 (decimal (10 ^ s + n % 10 ^ s)))
    ∙ ap (λ l. old ++ l) (sym (size_parts s n some few))

-- digits are those of what is left of a number over a power of ten
last_left : (s n : ℕ) → s ≤ 34 → last_digits s (n % 10 ^ s) ≡ last_digits s n
last_left s n few =
    let above : 0 < 10 ^ s = ten_pow_positive s in
    let below : n % 10 ^ s < 10 ^ s = omega arith in
    let same : n % 10 ^ s % 10 ^ s ≡ n % 10 ^ s = mod-eq_of_lt below in
    ap (drop 1) (sym (behind_one s (n % 10 ^ s) few) ∙ ap (λ m. decimal (10 ^ s + m)) same ∙ behind_one s n few)

-- so a number is what stands before the point, the point and they, with a byte behind
pub said_with : (s n one b : ℕ) (old first new : List ℕ) → one ≡ 10 ^ s → s ≢ 0 → s ≤ 34
    → first ≡ old ++ decimal (n / one) ++ 46 ∷ [] → new ≡ first ++ last_digits s (n % one) ++ b ∷ []
    → new ≡ old ++ size_text s n ++ b ∷ []
said_with zero n one b old first new power some few before is = absurd (some refl)
said_with (suc s) n one b old first new power some few before is =
    let point : (suc s == 0) ≡ false = grind (arith, nat_tests) in
    let text : size_text (suc s) n ≡ decimal (n / 10 ^ suc s) ++ 46 ∷ last_digits (suc s) n = rw point refl in
    let digits : last_digits (suc s) (n % one) ≡ last_digits (suc s) n = ap (λ m. last_digits (suc s) (n % m)) power ∙ last_left (suc s) n few in
    is ∙ (λ j. before j ++ digits j ++ b ∷ [])
    ∙ ap (λ m. (old ++ decimal (n / m) ++ 46 ∷ []) ++ last_digits (suc s) n ++ b ∷ []) power
    ∙ ap (λ l. l ++ b ∷ []) (append_assoc (old ++ decimal (n / 10 ^ suc s)) (46 ∷ []) (last_digits (suc s) n)
    ∙ append_assoc old (decimal (n / 10 ^ suc s)) (46 ∷ last_digits (suc s) n))
    ∙ ap (λ l. old ++ l ++ b ∷ []) (sym text)

-- digits behind a one, without it
pub without_one : (s n one : ℕ) (old new : List ℕ) → one ≡ 10 ^ s → s ≤ 34 → n < 10 ^ s → new ≡ old ++ drop 1 (decimal (one + n))
    → new ≡ old ++ last_digits s n
without_one s n one old new power few below is =
    let same : n % 10 ^ s ≡ n = mod-eq_of_lt below in
    is ∙ (λ j. old ++ drop 1 (decimal (power j + n))) ∙ ap (λ m. old ++ drop 1 (decimal (10 ^ s + m))) (sym same)
    ∙ ap (λ l. old ++ drop 1 l) (behind_one s n few)

length_digits : (s n : ℕ) → length (last_digits s n) ≡ s
length_digits zero n = refl
length_digits (suc s) n =
    let less : length (last_digits s (n / 10)) ≡ s = length_digits s (n / 10) in
    omega (arith, less, length-append (last_digits s (n / 10)) ((48 + n % 10) ∷ []))

-- a number with zeros behind it has its digits first
justified : (s k n : ℕ) → take s (last_digits (s + k) (n * 10 ^ k)) ≡ last_digits s n
justified s zero n =
    let all : s + 0 ≡ s = omega arith in
    let one : n * 1 ≡ n = omega arith in
    (λ j. take s (last_digits (all j) (one j))) ∙ take_all s (last_digits s n) (omega (arith, length_digits s n))
justified s (suc k) n =
    let more : s + suc k ≡ suc (s + k) = omega arith in
    let power : 10 ^ suc k ≡ 10 ^ k * 10 = pow-suc 10 k in
    let tenth : n * (10 ^ k * 10) / 10 ≡ n * 10 ^ k = ap (λ m. m / 10) (let e : n * (10 ^ k * 10) ≡ n * 10 ^ k * 10 = omega arith in e) ∙ (let e : n * 10 ^ k * 10 / 10 ≡ n * 10 ^ k = omega arith in e) in
    let size : length (last_digits (s + k) (n * 10 ^ k)) ≡ s + k = length_digits (s + k) (n * 10 ^ k) in
    (λ j. take s (last_digits (more j) (n * power j)))
    ∙ ap (λ m. take s (last_digits (s + k) m ++ (48 + n * (10 ^ k * 10) % 10) ∷ [])) tenth
    ∙ take-append-le s (last_digits (s + k) (n * 10 ^ k)) ((48 + n * (10 ^ k * 10) % 10) ∷ []) (omega (arith, size))
    ∙ justified s k n

-- up to eight digits are the first of the eight of a number with zeros behind it, which is below ten to the eighth
pub first_of_eight : (s n : ℕ) → s ≤ 8 → take s (last_digits 8 (n * 10 ^ (8 - s))) ≡ last_digits s n
first_of_eight s n few =
    let all : 8 ≡ s + (8 - s) = omega arith in
    ap (λ k. take s (last_digits k (n * 10 ^ (8 - s)))) all ∙ justified s (8 - s) n

pub below_eight : (s n : ℕ) → s ≤ 8 → n < 10 ^ s → n * 10 ^ (8 - s) < 100_000_000
below_eight s n few below =
    let above : 0 < 10 ^ (8 - s) = ten_pow_positive (8 - s) in
    let all : s + (8 - s) ≡ 8 = omega arith in
    let whole : 10 ^ s * 10 ^ (8 - s) ≡ 100_000_000 = sym (pow-add 10 s (8 - s)) ∙ ap (λ k. 10 ^ k) all in
    subst (λ m. n * 10 ^ (8 - s) < m) whole (mul-lt-mul_of_pos_right below above)

-- so they are what stands behind a text that is cut behind them
pub cut_behind : (s n power count : ℕ) (old eight first cut : List ℕ) → s ≤ 8 → power ≡ 10 ^ (8 - s) → eight ≡ last_digits 8 (n * power)
    → first ≡ old ++ eight → count ≡ length old + s → cut ≡ take count first → cut ≡ old ++ last_digits s n
cut_behind s n power count old eight first cut few same are behind size is =
    is ∙ (λ j. take (size j) (behind j)) ∙ take-append-add old eight s
    ∙ ap (λ l. old ++ l) (ap (take s) (are ∙ ap (λ m. last_digits 8 (n * m)) same) ∙ first_of_eight s n few)

-- the last digits two by two
last_pair : (s n : ℕ) → last_digits (s + 2) n ≡ last_digits s (n / 100) ++ two_digits (n % 100)
last_pair s n =
    let count : s + 2 ≡ suc (suc s) = omega arith in
    let hundredth : n / 10 / 10 ≡ n / 100 = omega arith in
    let ten : n / 10 % 10 ≡ n % 100 / 10 % 10 = omega arith in
    let one : n % 10 ≡ n % 100 % 10 = omega arith in
    ap (λ k. last_digits k n) count
    ∙ append_assoc (last_digits s (n / 10 / 10)) ((48 + n / 10 % 10) ∷ []) ((48 + n % 10) ∷ [])
    ∙ (λ j. last_digits s (hundredth j) ++ (48 + ten j) ∷ (48 + one j) ∷ [])

pub eight_pairs : (n : ℕ) → n < 100_000_000
    → last_digits 8 n ≡ two_digits (n / 1_000_000) ++ two_digits (n / 10_000 % 100) ++ two_digits (n / 100 % 100) ++ two_digits (n % 100)
eight_pairs n few =
    let fourth : n / 100 / 100 ≡ n / 10_000 = omega arith in
    let sixth : n / 10_000 / 100 ≡ n / 1_000_000 = omega arith in
    let first : n / 1_000_000 % 100 ≡ n / 1_000_000 = omega arith in
    last_pair 6 n
    ∙ ap (λ l. l ++ two_digits (n % 100)) (last_pair 4 (n / 100))
    ∙ (λ j. (last_digits 4 (fourth j) ++ two_digits (n / 100 % 100)) ++ two_digits (n % 100))
    ∙ ap (λ l. (l ++ two_digits (n / 100 % 100)) ++ two_digits (n % 100)) (last_pair 2 (n / 10_000))
    ∙ (λ j. ((last_digits 2 (sixth j) ++ two_digits (n / 10_000 % 100)) ++ two_digits (n / 100 % 100)) ++ two_digits (n % 100))
    ∙ ap (λ l. ((l ++ two_digits (n / 10_000 % 100)) ++ two_digits (n / 100 % 100)) ++ two_digits (n % 100)) (last_pair 0 (n / 1_000_000))
    ∙ (λ j. ((two_digits (first j) ++ two_digits (n / 10_000 % 100)) ++ two_digits (n / 100 % 100)) ++ two_digits (n % 100))

-- for `grind`
pub ruleset bounds = (behind_short, behind_long)
