-- The digits of a printed number write its size.
use Rattle.std.proofs.Common.{◌≡◌, ℕ, zero, suc, ◌+◌, ◌-◌, ◌*◌, ◌/◌, ◌%◌, ◌^◌, ◌<◌, ◌≤◌, ◌==◌, true, false, if◌then◌else◌, ℤ, pos, int_lt, unsigned_abs, List, [], ◌∷◌, ◌++◌, filter, refl, ap, ◌∙◌, arith, lit<}
use Rattle.std.specs.List.{fold}
use Rattle.std.specs.Char.{is_ascii_digit}
use Rattle.std.specs.Fmt.{decimal}
use Rattle.std.proofs.lemmas.Bool.Decides.{nat_tests}
use Rattle.std.proofs.lemmas.Fmt.{decimal_by_steps_wide}
use Rattle.std.proofs.lemmas.List.{append-nil}
use Rattle.std.proofs.lemmas.List.Elements.{filter-append}
use Rattle.std.proofs.lemmas.List.Sums.{fold-append}
use Rattle.std.proofs.Math.Arith.{mod-mul}
use Rattle.std.proofs.Math.Nat.{pow-suc, div-le_self}
use Rattle.std.proofs.lemmas.Nat.{div-add-mod'}
use Rattle.ts_base.specs.Moment.{with_digit, number_of}
use Rattle.ts_row.specs.Row.{last_digits, size_text, number_text}
use Rattle.ts_row.proofs.LiteralLemmas.{ten_pow_positive}

-- a digit is one
digit_is : (n : ℕ) → n < 10 → is_ascii_digit (48 + n) ≡ true
digit_is n below = grind (arith, nat_tests)

-- one digit more
number_of-push : (text : List ℕ) (a c : ℕ) → fold with_digit a (text ++ c ∷ []) ≡ fold with_digit a text * 10 + (c - 48)
number_of-push text a c = fold-append with_digit a text (c ∷ [])

-- text of digits alone that write a number
pub record Writes (n : ℕ) (text : List ℕ) : Type 0 where
  pub digits : filter is_ascii_digit text ≡ text
  pub value : number_of text ≡ n

-- a number printed whole
decimal-writes : (n : ℕ) → n < 10 ^ 64 → Writes n (decimal n)
decimal-writes n below =
    decimal_by_steps_wide Writes
    (λ m less. record { digits = rw (digit_is m less) refl; value = omega arith })
    (λ m text more front. record {
      digits = filter-append is_ascii_digit text ((48 + m % 10) ∷ [])
          ∙ ap (λ l. l ++ filter is_ascii_digit ((48 + m % 10) ∷ [])) front.digits
          ∙ ap (λ l. text ++ l) (rw (digit_is (m % 10) (omega arith)) refl);
      value = number_of-push text 0 (48 + m % 10) ∙ ap (λ k. k * 10 + (48 + m % 10 - 48)) front.value ∙ omega arith;
    })
    n below

-- last digits are digits
last_digits-kept : (count n : ℕ) → filter is_ascii_digit (last_digits count n) ≡ last_digits count n
last_digits-kept zero n = refl
last_digits-kept (suc count) n =
    filter-append is_ascii_digit (last_digits count (n / 10)) ((48 + n % 10) ∷ [])
    ∙ ap (λ l. l ++ filter is_ascii_digit ((48 + n % 10) ∷ [])) (last_digits-kept count (n / 10))
    ∙ ap (λ l. last_digits count (n / 10) ++ l) (rw (digit_is (n % 10) (omega arith)) refl)

-- last digits behind a number
last_digits-write : (count n a : ℕ) → fold with_digit a (last_digits count n) ≡ a * 10 ^ count + n % 10 ^ count
last_digits-write zero n a = omega arith
last_digits-write (suc count) n a =
    let power : 10 ^ suc count ≡ 10 ^ count * 10 = pow-suc 10 count in
    let rest : n % (10 ^ count * 10) ≡ n / 10 % 10 ^ count * 10 + n % 10 = mod-mul n (ten_pow_positive count) (lit< tt) in
    number_of-push (last_digits count (n / 10)) a (48 + n % 10)
    ∙ ap (λ k. k * 10 + (48 + n % 10 - 48)) (last_digits-write count (n / 10) a)
    ∙ rw (power, rest) (omega arith)

-- the whole part has at most 64 digits
whole_fits : (scale n : ℕ) → n < 2 ^ 128 → n / 10 ^ scale < 10 ^ 64
whole_fits scale n below =
    let wide : 2 ^ 128 < 10 ^ 64 = lit< tt in
    let less : n / 10 ^ scale ≤ n = div-le_self n (10 ^ scale) in
    omega arith

-- a size printed with a point
size_text-writes : (scale n : ℕ) → n < 2 ^ 128 → number_of (filter is_ascii_digit (size_text scale n)) ≡ n
size_text-writes zero n below =
    let wide : n / 10 ^ 0 < 10 ^ 64 = whole_fits zero n below in
    let whole = decimal-writes (n / 10 ^ 0) wide in
    ap (λ l. number_of (filter is_ascii_digit l)) (append-nil (decimal (n / 10 ^ 0))) ∙ ap number_of whole.digits ∙ whole.value ∙ omega arith
size_text-writes (suc count) n below =
    let wide : n / 10 ^ suc count < 10 ^ 64 = whole_fits (suc count) n below in
    let whole = decimal-writes (n / 10 ^ suc count) wide in
    let some : (suc count == 0) ≡ false = grind (arith, nat_tests) in
    let text : size_text (suc count) n ≡ decimal (n / 10 ^ suc count) ++ 46 ∷ last_digits (suc count) n = rw some refl in
    ap (λ l. number_of (filter is_ascii_digit l)) text
    ∙ ap number_of (filter-append is_ascii_digit (decimal (n / 10 ^ suc count)) (46 ∷ last_digits (suc count) n))
    ∙ ap (λ l. number_of (l ++ filter is_ascii_digit (last_digits (suc count) n))) whole.digits
    ∙ ap (λ l. number_of (decimal (n / 10 ^ suc count) ++ l)) (last_digits-kept (suc count) n)
    ∙ fold-append with_digit 0 (decimal (n / 10 ^ suc count)) (last_digits (suc count) n)
    ∙ ap (λ k. fold with_digit k (last_digits (suc count) n)) whole.value
    ∙ last_digits-write (suc count) n (n / 10 ^ suc count)
    ∙ div-add-mod' n (10 ^ suc count)

-- the digits of a printed number write its size
pub number_text-writes : (scale : ℕ) (z : ℤ) → unsigned_abs z < 2 ^ 128 → number_of (filter is_ascii_digit (number_text scale z)) ≡ unsigned_abs z
number_text-writes scale z below =
    elim (int_lt z (pos 0)) as (λ b. number_of (filter is_ascii_digit ((if b then 45 ∷ [] else []) ++ size_text scale (unsigned_abs z))) ≡ unsigned_abs z) [
      | true ↦ size_text-writes scale (unsigned_abs z) below
      | false ↦ size_text-writes scale (unsigned_abs z) below
    ]
