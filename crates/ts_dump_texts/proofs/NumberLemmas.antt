-- Numbers as they are printed, and as they are read.
use Rattle.std.proofs.Common.{◌≡◌, ℕ, ◌<◌, ◌≤◌, ◌^◌, ◌==◌, ◌||◌, ◌&&◌, nat_le, Bool, true, false, cond, Option, Some, None, Ok, List, [], ◌∷◌, ◌++◌, length, drop, filter, refl, ap, ◌∙◌, arith, ℤ, pos, lit<}
use Rattle.std.specs.Prelude.{nat_lt, int_le}
use Rattle.std.specs.List.{list_all, position_or_len}
use Rattle.std.specs.Char.{is_ascii_digit}
use Rattle.std.specs.Fmt.{decimal}
use Rattle.std.proofs.Math.Seq.{drop-append_seam}
use Rattle.std.proofs.lemmas.Bool.{and_parts}
use Rattle.std.proofs.lemmas.Bool.Decides.{nat_tests}
use Rattle.std.proofs.lemmas.Int.{ints}
use Rattle.ts_base.specs.Name.{is_blank, begins_word}
use Rattle.ts_base.specs.Moment.{number_of}
use Rattle.ts_text.specs.Phrase.{unblanked, digits_in_front, magnitude_of, token}
use Rattle.ts_text.specs.declared.token.TokenKind.{TokenKind}
use Rattle.ts_text.specs.declared.token.TokenKind.TheVariants.{Number}
use Rattle.ts_tokens.specs.Tokens.{fraction_length, magnitude_length, signed_length, number_length, of_kind, front, units_of, scale_of}
use Rattle.ts_tokens.proofs.CallerLemmas.{stops}
use Rattle.ts_arguments.specs.Arguments.{a_whole, whole_in, within, a_small, small_in}
use Rattle.ts_dump_texts.proofs.TokenLemmas.{token_taken}
use Rattle.ts_dump_texts.proofs.PrintedLemmas.{IsDigits, digits_of_number}

-- what ends a number: no digit, and no point
pub record EndsNumber (b : ℕ) : Type 0 where
  pub digit : is_ascii_digit b ≡ false
  pub point : (b == 46) ≡ false

-- how long digits are
plain_length : (whole rest : List ℕ) (b : ℕ) → list_all is_ascii_digit whole ≡ true → 1 ≤ length whole → length whole ≤ 38 → EndsNumber b → magnitude_length (whole ++ b ∷ rest) ≡ length whole
unfolding magnitude_length fraction_length
plain_length whole rest b all some few ends =
    let counted : digits_in_front 38 (whole ++ b ∷ rest) ≡ length whole = stops whole rest b 38 all ends.digit few in
    let behind : drop (length whole) (whole ++ b ∷ rest) ≡ b ∷ rest = drop-append_seam whole (b ∷ rest) in
    let any : (length whole == 0) ≡ false = grind (arith, nat_tests) in
    rw (counted, any, behind, ends.point) (omega arith)

digit_front : (d : ℕ) (s : List ℕ) → is_ascii_digit d ≡ true → front (d ∷ s) ≡ of_kind Number (signed_length 0 (magnitude_length (d ∷ s)))
unfolding front number_length
digit_front d s digit =
    let word : begins_word d ≡ false = grind (arith, nat_tests) in
    let quote : (d == 39) ≡ false = grind (arith, nat_tests) in
    let sign : (d == 40 || d == 41 || d == 44) ≡ false = grind (arith, nat_tests) in
    let minus : (d == 45) ≡ false = grind (arith, nat_tests) in
    rw (word, quote, sign, minus) refl

signed : (size : ℕ) → 1 ≤ size → of_kind Number (signed_length 0 size) ≡ Some (Number, size)
signed size some = let any : (size == 0) ≡ false = grind (arith, nat_tests) in rw any (ap (λ (n : ℕ). Some (Number, n)) (omega arith))

-- digits as one token
digits_front : (ds rest : List ℕ) (b : ℕ) → list_all is_ascii_digit ds ≡ true → 1 ≤ length ds → length ds ≤ 38 → EndsNumber b → front (ds ++ b ∷ rest) ≡ Some (Number, length ds)
digits_front [] rest b all some few ends = absurd (omega arith)
digits_front (d ∷ ds) rest b all some few ends =
    let first = (and_parts (is_ascii_digit d) (list_all is_ascii_digit ds) all).0 in
    digit_front d (ds ++ b ∷ rest) first
    ∙ ap (λ (n : ℕ). of_kind Number (signed_length 0 n)) (plain_length (d ∷ ds) rest b all some few ends)
    ∙ signed (length (d ∷ ds)) some

digits_show : (ds rest : List ℕ) → list_all is_ascii_digit ds ≡ true → 1 ≤ length ds → unblanked (ds ++ rest) ≡ ds ++ rest
digits_show [] rest all some = absurd (omega arith)
digits_show (d ∷ ds) rest all some =
    let first = (and_parts (is_ascii_digit d) (list_all is_ascii_digit ds) all).0 in
    let other : is_blank d ≡ false = grind (arith, nat_tests) in
    rw other refl

-- a printed number, as what its digits are taken
number_read : {A : Type 0} (accept : TokenKind → List ℕ → Option A) (n : ℕ) (rest : List ℕ) (b : ℕ) (a : A) → IsDigits n 9 → EndsNumber b → accept Number (decimal n) ≡ Some a
    → token front accept (decimal n ++ b ∷ rest) ≡ Ok (a, b ∷ rest)
number_read accept n rest b a is ends as_this =
    let some : 1 ≤ length (decimal n) = is.some in
    let few : length (decimal n) ≤ 38 = let nine = is.few in omega (arith, nine) in
    token_taken accept (decimal n) (b ∷ rest) Number a (digits_show (decimal n) (b ∷ rest) is.all some) (digits_front (decimal n) rest b is.all some few ends) as_this

-- what digits write
only_digits : (ds : List ℕ) → list_all is_ascii_digit ds ≡ true → filter is_ascii_digit ds ≡ ds
only_digits [] all = refl
only_digits (d ∷ ds) all =
    let parts = and_parts (is_ascii_digit d) (list_all is_ascii_digit ds) all in
    ap (λ (t : Bool). cond t (d ∷ filter is_ascii_digit ds) (filter is_ascii_digit ds)) parts.0 ∙ ap (λ (l : List ℕ). d ∷ l) (only_digits ds parts.1)

magnitude_is : (n : ℕ) → IsDigits n 9 → magnitude_of (decimal n) ≡ n
magnitude_is n is = ap number_of (only_digits (decimal n) is.all) ∙ is.value

no_point : (digits : List ℕ) → list_all is_ascii_digit digits ≡ true → position_or_len (λ b. b == 46) digits ≡ length digits
no_point [] all = refl
no_point (b ∷ digits) all =
    let parts = and_parts (is_ascii_digit b) (list_all is_ascii_digit digits) all in
    let differs : (b == 46) ≡ false = let digit = parts.0 in grind (arith, nat_tests) in
    rw (differs, no_point digits parts.1) (omega arith)

behind_none : (text : List ℕ) → position_or_len (λ b. b == 46) text ≡ length text → scale_of text ≡ 0
behind_none text none = let past : nat_lt (position_or_len (λ b. b == 46) text) (length text) ≡ false = grind (arith, nat_tests) in rw past refl

units_plain : (ds : List ℕ) → list_all is_ascii_digit ds ≡ true → 1 ≤ length ds → units_of ds ≡ pos (magnitude_of ds)
units_plain [] all some = absurd (omega arith)
units_plain (d ∷ ds) all some =
    let first = (and_parts (is_ascii_digit d) (list_all is_ascii_digit ds) all).0 in
    let minus : (d == 45) ≡ false = grind (arith, nat_tests) in
    rw minus refl

-- a whole number within its bounds
pub whole_read : (least most n : ℕ) (rest : List ℕ) (b : ℕ) → least ≤ n → n ≤ most → n < 10 ^ 9 → EndsNumber b → a_whole (pos least) (pos most) (decimal n ++ b ∷ rest) ≡ Ok (pos n, b ∷ rest)
unfolding a_whole
whole_read least most n rest b low high below ends =
    let wide : 10 ^ 9 < 2 ^ 64 = lit< tt in
    let is = digits_of_number n 9 (omega arith) below (omega (arith, below, wide)) in
    let units : units_of (decimal n) ≡ pos n = units_plain (decimal n) is.all is.some ∙ ap pos (magnitude_is n is) in
    let scale : scale_of (decimal n) ≡ 0 = behind_none (decimal n) (no_point (decimal n) is.all) in
    let within_bounds : (int_le (pos least) (pos n) && int_le (pos n) (pos most)) ≡ true = grind (arith, ints, nat_tests) in
    number_read (whole_in (pos least) (pos most)) n rest b (pos n) is ends
    (ap (λ (s : ℕ). cond (s == 0) (within (pos least) (pos most) (units_of (decimal n))) None) scale
    ∙ ap (within (pos least) (pos most)) units
    ∙ ap (λ (t : Bool). let o : Option ℤ = cond t (Some (pos n)) None in o) within_bounds)

-- a number of a type
pub small_read : (n : ℕ) (rest : List ℕ) (b : ℕ) → n < 1000 → EndsNumber b → a_small (decimal n ++ b ∷ rest) ≡ Ok (n, b ∷ rest)
unfolding a_small
small_read n rest b below ends =
    let wide : 1000 < 2 ^ 64 = lit< tt in
    let is = digits_of_number n 3 (omega arith) (omega (arith, below)) (omega (arith, below, wide)) in
    let three = is.few in
    let nine : IsDigits n 9 = record { all = is.all; some = is.some; few = omega (arith, three); value = is.value } in
    let short : nat_le (length (decimal n)) 3 ≡ true = grind (arith, nat_tests) in
    number_read small_in n rest b n nine ends
    (ap (λ (t : Bool). cond (t && list_all is_ascii_digit (decimal n)) (Some (magnitude_of (decimal n))) None) short
    ∙ ap (λ (t : Bool). cond t (Some (magnitude_of (decimal n))) None) is.all
    ∙ ap (λ (m : ℕ). Some m) (magnitude_is n nine))
