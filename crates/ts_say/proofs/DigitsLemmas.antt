-- The digits of a number, two by two.
use Rattle.std.proofs.Common.{◌≡◌, ℕ, ◌+◌, ◌/◌, ◌%◌, ◌^◌, ◌<◌, ◌≤◌, List, [], ◌∷◌, ◌++◌, ap, ◌∙◌, append_assoc, arith}
use Rattle.std.specs.Fmt.{decimal}
use Rattle.std.proofs.lemmas.Fmt.{decimal_digit, decimal_step}
use Rattle.ts_base.specs.Moment.{digit, two_digits}

pub one_digit : (n : ℕ) → n < 10 → decimal n ≡ digit n ∷ []
one_digit n few =
    let same : n ≡ n % 10 = omega arith in
    decimal_digit n few ∙ ap (λ m. (48 + m) ∷ []) same

pub both_digits : (n : ℕ) → 10 ≤ n → n < 100 → decimal n ≡ two_digits n
both_digits n more few =
    let same : n / 10 ≡ n / 10 % 10 = omega arith in
    decimal_step n more (omega arith)
    ∙ ap (λ l. l ++ (48 + n % 10) ∷ []) (decimal_digit (n / 10) (omega arith))
    ∙ ap (λ m. (48 + m) ∷ (48 + n % 10) ∷ []) same

-- the last two digits stand behind those of a hundredth
last_two : (n : ℕ) → 100 ≤ n → n < 2 ^ 64 → decimal n ≡ decimal (n / 100) ++ two_digits (n % 100)
last_two n more few =
    let hundredth : n / 10 / 10 ≡ n / 100 = omega arith in
    let tens : n / 10 % 10 ≡ n % 100 / 10 % 10 = omega arith in
    let ones : n % 10 ≡ n % 100 % 10 = omega arith in
    decimal_step n (omega arith) few
    ∙ ap (λ l. l ++ (48 + n % 10) ∷ []) (decimal_step (n / 10) (omega arith) (omega arith))
    ∙ append_assoc (decimal (n / 10 / 10)) ((48 + n / 10 % 10) ∷ []) ((48 + n % 10) ∷ [])
    ∙ (λ i. decimal (hundredth i) ++ (48 + tens i) ∷ (48 + ones i) ∷ [])

-- so a number and a byte behind it are the digits of a hundredth, two more and the byte, and so on
pub behind_four : (n b : ℕ) (first : List ℕ) → 100 ≤ n → n < 2 ^ 64 → decimal (n / 100) ≡ first
    → decimal n ++ b ∷ [] ≡ first ++ (two_digits (n % 100) ++ b ∷ [])
behind_four n b first more few is =
    ap (λ l. l ++ b ∷ []) (last_two n more few ∙ ap (λ l. l ++ two_digits (n % 100)) is)
    ∙ append_assoc first (two_digits (n % 100)) (b ∷ [])

pub behind_six : (n b : ℕ) (first : List ℕ) → 10_000 ≤ n → n < 2 ^ 64 → decimal (n / 10_000) ≡ first
    → decimal n ++ b ∷ [] ≡ first ++ (two_digits (n / 100 % 100) ++ (two_digits (n % 100) ++ b ∷ []))
behind_six n b first more few is =
    let hundredth : n / 100 / 100 ≡ n / 10_000 = omega arith in
    behind_four n b (first ++ two_digits (n / 100 % 100)) (omega arith) few
    (last_two (n / 100) (omega arith) (omega arith) ∙ ap (λ l. l ++ two_digits (n / 100 % 100)) (ap decimal hundredth ∙ is))
    ∙ append_assoc first (two_digits (n / 100 % 100)) (two_digits (n % 100) ++ b ∷ [])

pub behind_eight : (n b : ℕ) (first : List ℕ) → 1_000_000 ≤ n → n < 2 ^ 64 → decimal (n / 1_000_000) ≡ first
    → decimal n ++ b ∷ [] ≡ first ++ (two_digits (n / 10_000 % 100) ++ (two_digits (n / 100 % 100) ++ (two_digits (n % 100) ++ b ∷ [])))
behind_eight n b first more few is =
    let hundredth : n / 10_000 / 100 ≡ n / 1_000_000 = omega arith in
    behind_six n b (first ++ two_digits (n / 10_000 % 100)) (omega arith) few
    (last_two (n / 10_000) (omega arith) (omega arith) ∙ ap (λ l. l ++ two_digits (n / 10_000 % 100)) (ap decimal hundredth ∙ is))
    ∙ append_assoc first (two_digits (n / 10_000 % 100)) (two_digits (n / 100 % 100) ++ (two_digits (n % 100) ++ b ∷ []))
