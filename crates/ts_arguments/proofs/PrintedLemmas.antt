-- What is printed of a value is one token, and says the value.
use Rattle.std.proofs.Common.{◌≡◌, ◌⊎◌, ℕ, zero, suc, nat_lt, nat_le, ◌+◌, ◌-◌, ◌*◌, ◌/◌, ◌%◌, ◌^◌, ◌<◌, ◌≤◌, ◌==◌, ◌||◌, true, false, ℤ, pos, negsuc, int_lt, unsigned_abs, IsTrue, List, [], ◌∷◌, ◌++◌, length, length-append, append_assoc, take, drop, slice_index, filter, Option, Some, Ok, Err, refl, sym, subst, ◌∙◌, ap, arith, lit<, inl, inr, codes}
use Rattle.std.proofs.Math.Seq.{take-append_seam, drop-append_seam}
use Rattle.std.proofs.Math.Nat.{pow-suc, pow-le-pow_right, div-le_self, one-le-pow}
use Rattle.std.proofs.lemmas.Nat.{pow-add, div_below}
use Rattle.std.proofs.lemmas.Bool.{cases_Bool, and_parts}
use Rattle.std.proofs.lemmas.Bool.Decides.{nat_tests}
use Rattle.std.proofs.lemmas.Fmt.{decimal_by_steps_wide}
use Rattle.std.proofs.lemmas.List.{append-nil}
use Rattle.std.proofs.lemmas.List.Folds.{list_all-append}
use Rattle.std.specs.List.{list_all, flat_map, position_or_len}
use Rattle.std.specs.Char.{is_ascii_digit}
use Rattle.std.specs.Fmt.{decimal}
use Rattle.ts_base.specs.Name.{is_blank, begins_word, continues_word, is_text_byte, is_text}
use Rattle.ts_base.specs.Moment.{number_of}
use Rattle.ts_row.specs.declared.kind.ColumnKind.{ColumnKind}
use Rattle.ts_row.specs.declared.kind.ColumnKind.TheVariants.{SmallInt, Integer, BigInt, Decimal, VarChar}
use Rattle.ts_row.specs.declared.kind.Column.{Column}
use Rattle.ts_row.specs.declared.value.Value.{Value}
use Rattle.ts_row.specs.declared.value.Value.TheVariants as values
use Rattle.ts_row.specs.declared.value.Literal.{Literal}
use Rattle.ts_row.specs.declared.value.Literal.TheVariants as literals
use Rattle.ts_row.specs.Row.{is_kind, scale_of, Values, holds, holds_size, hold, last_digits, size_text, number_text, quoted, value_text, values_text, literal_of, value_literals}
use Rattle.ts_tokens.specs.Tokens.{fraction_length, magnitude_length, signed_length, number_length, closing, later, or_before, of_kind, front, units_of, scale_of as digits_behind, undoubled, said}
use Rattle.ts_text.specs.Phrase.{digits_in_front, unblanked, magnitude_of, taken, taken_front, token, a_sign, repeated}
use Rattle.ts_arguments.specs.Arguments.{a_literal, literal_in}
use Rattle.ts_arguments.specs.Printed.{ends_value}
use Rattle.ts_text.specs.declared.token.TokenKind.{TokenKind}
use Rattle.ts_text.specs.declared.token.TokenKind.TheVariants.{Word, Number, Text}
use Rattle.ts_arguments.proofs.FormLemmas.{literal_shrinks}
use Rattle.ts_text.proofs.CallerLemmas.{repeated_none, repeated_more}
use Rattle.ts_tokens.proofs.CallerLemmas.{stops, text_byte, single_quote, doubled_quote, undoubled-cons}

-- what behind a value stands
record Ends (b : ℕ) : Type 0 where
  word : continues_word b ≡ false
  digit : is_ascii_digit b ≡ false
  point : (b == 46) ≡ false
  quote : (b == 39) ≡ false

ends_of : (b : ℕ) → (is_blank b || b == 44 || b == 41) ≡ true → Ends b
ends_of b is = record { word = grind (arith, nat_tests); digit = grind (arith, nat_tests); point = grind (arith, nat_tests); quote = grind (arith, nat_tests) }

-- a token that stands in front is taken
token-taken : {A : Type 0} (accept : TokenKind → List ℕ → Option A) (text rest : List ℕ) (kind : TokenKind) (a : A) → unblanked (text ++ rest) ≡ text ++ rest → front (text ++ rest) ≡ Some (kind, length text) → accept kind text ≡ Some a → token front accept (text ++ rest) ≡ Ok (a, rest)
token-taken {A} accept text rest kind a here is as_this =
    ap (λ (l : List ℕ). taken_front accept l (front l)) here
    ∙ ap (taken_front accept (text ++ rest)) is
    ∙ ap (λ (l : List ℕ). taken (text ++ rest) (length text) (accept kind l)) (take-append_seam text rest)
    ∙ ap (taken (text ++ rest) (length text)) as_this
    ∙ ap (λ (l : List ℕ). Ok (a, l)) (drop-append_seam text rest)

-- digits, some, and no more than the number has
record Digits (n : ℕ) (text : List ℕ) : Type 0 where
  all : list_all is_ascii_digit text ≡ true
  some : 1 ≤ length text
  few : (k : ℕ) → n < 10 ^ suc k → length text ≤ suc k

digit_is : (n : ℕ) → n < 10 → is_ascii_digit (48 + n) ≡ true
digit_is n below = grind (arith, nat_tests)

fewer : (n : ℕ) (text : List ℕ) → 10 ≤ n → ((k : ℕ) → n / 10 < 10 ^ suc k → length text ≤ suc k) → (k : ℕ) → n < 10 ^ suc k → length (text ++ (48 + n % 10) ∷ []) ≤ suc k
fewer n text more front zero below = absurd (omega arith)
fewer n text more front (suc k) below =
    let power : 10 ^ suc (suc k) ≡ 10 ^ suc k * 10 = pow-suc 10 (suc k) in
    let before : n / 10 < 10 ^ suc k = omega (arith, power) in
    let short = front k before in
    omega (arith, short, length-append text ((48 + n % 10) ∷ []))

decimal-digits : (n : ℕ) → n < 10 ^ 64 → Digits n (decimal n)
decimal-digits n below =
    decimal_by_steps_wide Digits
    (λ m less. record { all = rw (digit_is m less) refl; some = omega arith; few = λ k small. omega arith })
    (λ m text more front. record {
      all = list_all-append is_ascii_digit text ((48 + m % 10) ∷ []) ∙ rw (front.all, digit_is (m % 10) (omega arith)) refl;
      some = omega (arith, length-append text ((48 + m % 10) ∷ []));
      few = fewer m text more front.few;
    })
    n below

last_digits-all : (count n : ℕ) → (list_all is_ascii_digit (last_digits count n) ≡ true) × (length (last_digits count n) ≡ count)
last_digits-all zero n = (refl, refl)
last_digits-all (suc count) n =
    let front = last_digits-all count (n / 10) in (
      list_all-append is_ascii_digit (last_digits count (n / 10)) ((48 + n % 10) ∷ []) ∙ rw (front.0, digit_is (n % 10) (omega arith)) refl,
      length-append (last_digits count (n / 10)) ((48 + n % 10) ∷ []) ∙ omega (arith, front.1),
    )

-- the length of printed digits
plain_length : (whole rest : List ℕ) (b : ℕ) → list_all is_ascii_digit whole ≡ true → 1 ≤ length whole → length whole ≤ 38 → Ends b → magnitude_length (whole ++ b ∷ rest) ≡ length whole
unfolding magnitude_length fraction_length
plain_length whole rest b all some few ends =
    let counted : digits_in_front 38 (whole ++ b ∷ rest) ≡ length whole = stops whole rest b 38 all ends.digit few in
    let behind : drop (length whole) (whole ++ b ∷ rest) ≡ b ∷ rest = drop-append_seam whole (b ∷ rest) in
    let any : (length whole == 0) ≡ false = grind (arith, nat_tests) in
    rw (counted, any, behind, ends.point) (omega arith)

-- the length of printed digits with a point
point_length : (whole fraction rest : List ℕ) (b : ℕ) → list_all is_ascii_digit whole ≡ true → 1 ≤ length whole → list_all is_ascii_digit fraction ≡ true → 1 ≤ length fraction → length whole + length fraction ≤ 38 → Ends b → magnitude_length (whole ++ 46 ∷ (fraction ++ b ∷ rest)) ≡ length whole + (1 + length fraction)
unfolding magnitude_length fraction_length
point_length whole fraction rest b all some behind some_behind few ends =
    let counted : digits_in_front 38 (whole ++ 46 ∷ (fraction ++ b ∷ rest)) ≡ length whole = stops whole (fraction ++ b ∷ rest) 46 38 all refl (omega arith) in
    let dropped : drop (length whole) (whole ++ 46 ∷ (fraction ++ b ∷ rest)) ≡ 46 ∷ (fraction ++ b ∷ rest) = drop-append_seam whole (46 ∷ (fraction ++ b ∷ rest)) in
    let counted_behind : digits_in_front (38 - length whole) (fraction ++ b ∷ rest) ≡ length fraction = stops fraction rest b (38 - length whole) behind ends.digit (omega arith) in
    let any : (length whole == 0) ≡ false = grind (arith, nat_tests) in
    let any_behind : (length fraction == 0) ≡ false = grind (arith, nat_tests) in
    rw (counted, any, dropped, counted_behind, any_behind) refl

-- where the point of digits stands
no_point : (digits : List ℕ) → list_all is_ascii_digit digits ≡ true → position_or_len (λ b. b == 46) digits ≡ length digits
no_point [] all = refl
no_point (b ∷ digits) all =
    let parts = and_parts (is_ascii_digit b) (list_all is_ascii_digit digits) all in
    let differs : (b == 46) ≡ false = let digit = parts.0 in grind (arith, nat_tests) in
    rw (differs, no_point digits parts.1) (omega arith)

point_at : (digits rest : List ℕ) → list_all is_ascii_digit digits ≡ true → position_or_len (λ b. b == 46) (digits ++ 46 ∷ rest) ≡ length digits
point_at [] rest all = refl
point_at (b ∷ digits) rest all =
    let parts = and_parts (is_ascii_digit b) (list_all is_ascii_digit digits) all in
    let differs : (b == 46) ≡ false = let digit = parts.0 in grind (arith, nat_tests) in
    rw (differs, point_at digits rest parts.1) (omega arith)

-- how many digits stand behind a point
behind_none : (text : List ℕ) → position_or_len (λ b. b == 46) text ≡ length text → digits_behind text ≡ 0
behind_none text none = let past : nat_lt (position_or_len (λ b. b == 46) text) (length text) ≡ false = grind (arith, nat_tests) in rw past refl

behind_some : (text : List ℕ) (at count : ℕ) → position_or_len (λ b. b == 46) text ≡ at → length text ≡ at + (1 + count) → digits_behind text ≡ count
behind_some text at count is size =
    let within : nat_lt (position_or_len (λ b. b == 46) text) (length text) ≡ true = let less : position_or_len (λ b. b == 46) text < length text = omega arith in grind (arith, nat_tests) in
    rw within (omega arith)

-- a printed size: its first byte is a digit, it is read whole, and so many digits stand behind the point
record Magnitude (scale : ℕ) (text : List ℕ) : Type 0 where
  first : ℕ
  more : List ℕ
  split : text ≡ first ∷ more
  digit : is_ascii_digit first ≡ true
  whole : (b : ℕ) (rest : List ℕ) → Ends b → magnitude_length (text ++ b ∷ rest) ≡ length text
  point : ((scale ≡ 0) × (position_or_len (λ b. b == 46) text ≡ length text)) ⊎ (position_or_len (λ b. b == 46) text + (1 + scale) ≡ length text)

-- the first byte of digits and what stands behind them
record First (digits rest : List ℕ) : Type 0 where
  first : ℕ
  more : List ℕ
  split : digits ++ rest ≡ first ∷ more
  digit : is_ascii_digit first ≡ true

first_of : (digits rest : List ℕ) → list_all is_ascii_digit digits ≡ true → 1 ≤ length digits → First digits rest
first_of [] rest all some = absurd (omega arith)
first_of (d ∷ digits) rest all some = record { first = d; more = digits ++ rest; split = refl; digit = (and_parts (is_ascii_digit d) (list_all is_ascii_digit digits) all).0 }

-- the digits that a number of at most 29 has in front of its point
whole_part : (n scale : ℕ) → n < 10 ^ 29 → scale ≤ 28 → n / 10 ^ scale < 10 ^ suc (28 - scale)
whole_part n scale below few =
    let digits : suc (28 - scale) + scale ≡ 29 = omega arith in
    let all : 10 ^ suc (28 - scale) * 10 ^ scale ≡ 10 ^ 29 = sym (pow-add 10 (suc (28 - scale)) scale) ∙ ap (λ k. 10 ^ k) digits in
    div_below n (10 ^ scale) (10 ^ suc (28 - scale)) (one-le-pow scale 10 (lit< tt)) (subst (λ m. n < m) (sym all) below)

size-magnitude : (scale n : ℕ) → n < 10 ^ 29 → scale ≤ 28 → Magnitude scale (size_text scale n)
size-magnitude zero n below few =
    let wide : 10 ^ 29 < 10 ^ 64 = lit< tt in
    let less : n / 10 ^ 0 ≤ n = div-le_self n (10 ^ 0) in
    let text : List ℕ = decimal (n / 10 ^ 0) in
    let digits = decimal-digits (n / 10 ^ 0) (omega arith) in
    let short = digits.few 28 (omega arith) in
    let first = first_of text [] digits.all digits.some in
    let same : text ++ [] ≡ text = append-nil text in
    rw same (record {
      first = first.first;
      more = first.more;
      split = sym same ∙ first.split;
      digit = first.digit;
      whole = λ b rest ends. plain_length text rest b digits.all digits.some (omega arith) ends;
      point = inl (refl, no_point text digits.all);
    })
size-magnitude (suc count) n below few =
    let wide : 10 ^ 29 < 10 ^ 64 = lit< tt in
    let less : n / 10 ^ suc count ≤ n = div-le_self n (10 ^ suc count) in
    let text : List ℕ = decimal (n / 10 ^ suc count) in
    let fraction : List ℕ = last_digits (suc count) n in
    let digits = decimal-digits (n / 10 ^ suc count) (omega arith) in
    let behind = last_digits-all (suc count) n in
    let short = digits.few (28 - suc count) (whole_part n (suc count) below few) in
    let first = first_of text (46 ∷ fraction) digits.all digits.some in
    let some : (suc count == 0) ≡ false = grind (arith, nat_tests) in
    let size : length (text ++ 46 ∷ fraction) ≡ length text + (1 + length fraction) = length-append text (46 ∷ fraction) ∙ omega arith in
    rw some (record {
      first = first.first;
      more = first.more;
      split = first.split;
      digit = first.digit;
      whole = λ b rest ends. ap magnitude_length (append_assoc text (46 ∷ fraction) (b ∷ rest)) ∙ point_length text fraction rest b digits.all digits.some behind.0 (omega (arith, behind.1)) (omega (arith, behind.1)) ends ∙ sym size;
      point = inr (omega (arith, point_at text fraction digits.all, size, behind.1));
    })

-- the number in front, with a sign and without
digit_front : (d : ℕ) (s : List ℕ) → is_ascii_digit d ≡ true → front (d ∷ s) ≡ of_kind Number (signed_length 0 (magnitude_length (d ∷ s)))
unfolding front number_length
digit_front d s digit =
    let word : begins_word d ≡ false = grind (arith, nat_tests) in
    let quote : (d == 39) ≡ false = grind (arith, nat_tests) in
    let sign : (d == 40 || d == 41 || d == 44) ≡ false = grind (arith, nat_tests) in
    let minus : (d == 45) ≡ false = grind (arith, nat_tests) in
    rw (word, quote, sign, minus) refl

minus_front : (s : List ℕ) → front (45 ∷ s) ≡ of_kind Number (signed_length 1 (magnitude_length s))
unfolding front number_length
minus_front s = refl

signed : (sign size : ℕ) → 1 ≤ size → of_kind Number (signed_length sign size) ≡ Some (Number, sign + size)
signed sign size some = let any : (size == 0) ≡ false = grind (arith, nat_tests) in rw any refl

not_blank : (d : ℕ) (s : List ℕ) → is_ascii_digit d ≡ true → unblanked (d ∷ s) ≡ d ∷ s
not_blank d s digit = let other : is_blank d ≡ false = grind (arith, nat_tests) in rw other refl

-- a number without a sign, and with one
unsigned-read : (scale n : ℕ) (text rest : List ℕ) (b : ℕ) → Magnitude scale text → magnitude_of text ≡ n → Ends b → a_literal (text ++ b ∷ rest) ≡ Ok (literals.Number (pos n) scale, b ∷ rest)
unfolding a_literal
unsigned-read scale n text rest b is value ends =
    let here : unblanked (text ++ b ∷ rest) ≡ text ++ b ∷ rest = rw is.split (not_blank is.first (is.more ++ b ∷ rest) is.digit) in
    let some : 1 ≤ length text = omega (arith, ap length is.split) in
    let at : front (text ++ b ∷ rest) ≡ of_kind Number (signed_length 0 (magnitude_length (text ++ b ∷ rest))) = rw is.split (digit_front is.first (is.more ++ b ∷ rest) is.digit) in
    let size : front (text ++ b ∷ rest) ≡ Some (Number, length text) =
    at ∙ ap (λ (m : ℕ). of_kind Number (signed_length 0 m)) (is.whole b rest ends) ∙ signed 0 (length text) some ∙ ap (λ (m : ℕ). Some (Number, m)) (omega arith) in
    let plus : (slice_index text 0 == 45) ≡ false = let digit = is.digit in rw is.split (grind (arith, nat_tests)) in
    let units : units_of text ≡ pos n = rw (plus, value) refl in
    let behind : digits_behind text ≡ scale = by_point is.point in
    token-taken literal_in text (b ∷ rest) Number (literals.Number (pos n) scale) here size (rw (units, behind) refl) where
      by_point : ((scale ≡ 0) × (position_or_len (λ b. b == 46) text ≡ length text)) ⊎ (position_or_len (λ b. b == 46) text + (1 + scale) ≡ length text) → digits_behind text ≡ scale
      by_point (inl none) = behind_none text none.1 ∙ sym none.0
      by_point (inr some) = behind_some text (position_or_len (λ b. b == 46) text) scale refl (sym some)

signed-read : (scale n : ℕ) (text rest : List ℕ) (b : ℕ) → Magnitude scale text → magnitude_of (45 ∷ text) ≡ suc n → Ends b → a_literal (45 ∷ (text ++ b ∷ rest)) ≡ Ok (literals.Number (negsuc n) scale, b ∷ rest)
unfolding a_literal
signed-read scale n text rest b is value ends =
    let some : 1 ≤ length text = omega (arith, ap length is.split) in
    let size : front (45 ∷ (text ++ b ∷ rest)) ≡ Some (Number, length (45 ∷ text)) =
    minus_front (text ++ b ∷ rest) ∙ ap (λ (m : ℕ). of_kind Number (signed_length 1 m)) (is.whole b rest ends) ∙ signed 1 (length text) some ∙ ap (λ (m : ℕ). Some (Number, m)) (omega arith) in
    let units : units_of (45 ∷ text) ≡ negsuc n = rw value refl in
    let behind : digits_behind (45 ∷ text) ≡ scale = by_point is.point in
    token-taken literal_in (45 ∷ text) (b ∷ rest) Number (literals.Number (negsuc n) scale) refl size (rw (units, behind) refl) where
      by_point : ((scale ≡ 0) × (position_or_len (λ b. b == 46) text ≡ length text)) ⊎ (position_or_len (λ b. b == 46) text + (1 + scale) ≡ length text) → digits_behind (45 ∷ text) ≡ scale
      by_point (inl none) = behind_none (45 ∷ text) (omega (arith, none.1)) ∙ sym none.0
      by_point (inr some) = behind_some (45 ∷ text) (1 + position_or_len (λ b. b == 46) text) scale refl (omega (arith, some))

-- numbers of a column are short
held_small : (kind : ColumnKind) (n : ℕ) → IsTrue (is_kind kind) → IsTrue (holds_size kind n) → (n < 10 ^ 29) × (scale_of kind ≤ 28)
held_small SmallInt n valid held = let most : 32_767 < 10 ^ 29 = lit< tt in (grind (arith, nat_tests), omega arith)
held_small Integer n valid held = let most : 2_147_483_647 < 10 ^ 29 = lit< tt in (grind (arith, nat_tests), omega arith)
held_small BigInt n valid held = let most : 9_223_372_036_854_775_807 < 10 ^ 29 = lit< tt in (grind (arith, nat_tests), omega arith)
held_small (Decimal digits scale) n valid held =
    let few : digits ≤ 28 = grind (arith, nat_tests) in
    let part : scale ≤ digits = grind (arith, nat_tests) in
    let below : n < 10 ^ digits = grind (arith, nat_tests) in
    let power : 10 ^ digits ≤ 10 ^ 28 = pow-le-pow_right (lit< tt) {i = digits} {j = 28} few in
    let wide : 10 ^ 28 < 10 ^ 29 = lit< tt in
    (omega arith, omega arith)
held_small (VarChar most) n valid held = absurd (cc)

abbrev Sized : Type 0
Sized = (scale : ℕ) (z : ℤ) → unsigned_abs z < 2 ^ 128 → number_of (filter is_ascii_digit (number_text scale z)) ≡ unsigned_abs z

-- a number of a column
number-read : Sized → (scale : ℕ) (z : ℤ) (b : ℕ) (rest : List ℕ) → unsigned_abs z < 10 ^ 29 → scale ≤ 28 → Ends b → a_literal (number_text scale z ++ b ∷ rest) ≡ Ok (literals.Number z scale, b ∷ rest)
number-read sized scale (pos n) b rest below few ends =
    let plus : int_lt (pos n) (pos 0) ≡ false = grind (arith, nat_tests) in
    let wide : 10 ^ 29 < 2 ^ 128 = lit< tt in
    let value = rw plus at (sized scale (pos n) (omega arith)) in
    rw plus (unsigned-read scale n (size_text scale n) rest b (size-magnitude scale n below few) value ends)
number-read sized scale (negsuc n) b rest below few ends =
    let wide : 10 ^ 29 < 2 ^ 128 = lit< tt in
    let value = sized scale (negsuc n) (omega arith) in
    signed-read scale n (size_text scale (suc n)) rest b (size-magnitude scale (suc n) below few) value ends

-- a text is closed where it ends
closing-quoted : (text rest : List ℕ) (b : ℕ) → is_text text ≡ true → Ends b → closing ((flat_map quoted text ++ 39 ∷ []) ++ b ∷ rest) ≡ Some (length (flat_map quoted text) + 1)
closing-quoted [] rest b all ends = single_quote 39 (b ∷ rest) refl ends.quote
closing-quoted (c ∷ text) rest b all ends =
    let parts = and_parts (is_text_byte c) (is_text text) all in
    let others = closing-quoted text rest b parts.1 ends in
    elim (cases_Bool (c == 39)) [
      | inl t ↦ rw t (doubled_quote 39 (39 ∷ ((flat_map quoted text ++ 39 ∷ []) ++ b ∷ rest)) refl refl ∙ ap (λ (e : Option ℕ). or_before (Some 1) (later 2 e)) others ∙ ap Some (omega arith))
      | inr f ↦ rw f (text_byte c ((flat_map quoted text ++ 39 ∷ []) ++ b ∷ rest) f parts.0 ∙ ap (later 1) others ∙ ap Some (omega arith))
    ]

-- its quotes undoubled, it is the text
undoubled-quoted : (text : List ℕ) → undoubled (flat_map quoted text) ≡ text
unfolding undoubled
undoubled-quoted [] = refl
undoubled-quoted (c ∷ text) = elim (cases_Bool (c == 39)) [
  | inl t ↦ let is : 39 ≡ c = grind (arith, nat_tests) in rw t (undoubled-cons 39 (39 ∷ flat_map quoted text) ∙ ap (λ (l : List ℕ). 39 ∷ l) (undoubled-quoted text) ∙ ap (λ (d : ℕ). d ∷ text) is)
  | inr f ↦ rw f (undoubled-cons c (flat_map quoted text) ∙ rw f (ap (λ (l : List ℕ). c ∷ l) (undoubled-quoted text)))
]

quote_front : (s : List ℕ) → front (39 ∷ s) ≡ of_kind Text (later 1 (closing s))
unfolding front
quote_front s = refl

-- a text of a column
text-read : (text : List ℕ) (b : ℕ) (rest : List ℕ) → is_text text ≡ true → Ends b → a_literal (39 ∷ ((flat_map quoted text ++ 39 ∷ []) ++ b ∷ rest)) ≡ Ok (literals.Text text, b ∷ rest)
unfolding a_literal
text-read text b rest all ends =
    let q : List ℕ = flat_map quoted text in
    let size : length (39 ∷ (q ++ 39 ∷ [])) ≡ 1 + (length q + 1) = omega (arith, length-append q (39 ∷ [])) in
    let at : front (39 ∷ ((q ++ 39 ∷ []) ++ b ∷ rest)) ≡ Some (Text, length (39 ∷ (q ++ 39 ∷ []))) =
    quote_front ((q ++ 39 ∷ []) ++ b ∷ rest) ∙ ap (λ (e : Option ℕ). of_kind Text (later 1 e)) (closing-quoted text rest b all ends) ∙ ap (λ (n : ℕ). Some (Text, n)) (sym size) in
    let inner : length (39 ∷ (q ++ 39 ∷ [])) - 2 ≡ length q = omega (arith, size) in
    let says : said (39 ∷ (q ++ 39 ∷ [])) ≡ text = ap (λ (n : ℕ). undoubled (take n (q ++ 39 ∷ []))) inner ∙ ap undoubled (take-append_seam q (39 ∷ [])) ∙ undoubled-quoted text in
    token-taken literal_in (39 ∷ (q ++ 39 ∷ [])) (b ∷ rest) Text (literals.Text text) refl at (ap (λ (t : List ℕ). Some (literals.Text t)) says)

-- NULL
null-read : (b : ℕ) (rest : List ℕ) → Ends b → a_literal (codes "null" ++ b ∷ rest) ≡ Ok (literals.Null, b ∷ rest)
unfolding a_literal front
null-read b rest ends = token-taken literal_in (codes "null") (b ∷ rest) Word literals.Null refl (rw ends.word refl) refl

-- a value of a column
pub value-read : Sized → (kind : ColumnKind) (value : Value) (rest : List ℕ) → IsTrue (is_kind kind) → IsTrue (holds kind value) → IsTrue (ends_value rest) → a_literal (value_text (scale_of kind) value ++ rest) ≡ Ok (literal_of (scale_of kind) value, rest)
value-read sized kind value [] valid held ends = absurd (cc)
value-read sized kind values.Null (b ∷ rest) valid held ends = null-read b rest (ends_of b ends)
value-read sized kind (values.Number z) (b ∷ rest) valid held ends =
    let small = held_small kind (unsigned_abs z) valid held in
    number-read sized (scale_of kind) z b rest small.0 small.1 (ends_of b ends)
value-read sized (VarChar most) (values.Text text) (b ∷ rest) valid held ends = text-read text b rest (and_parts (nat_le (length text) most) (is_text text) held).1 (ends_of b ends)
value-read sized SmallInt (values.Text text) (b ∷ rest) valid held ends = absurd (cc)
value-read sized Integer (values.Text text) (b ∷ rest) valid held ends = absurd (cc)
value-read sized BigInt (values.Text text) (b ∷ rest) valid held ends = absurd (cc)
value-read sized (Decimal digits scale) (values.Text text) (b ∷ rest) valid held ends = absurd (cc)

comma_front : (s : List ℕ) → a_sign 44 (44 ∷ s) ≡ Ok (tt, s)
unfolding a_sign
comma_front s = refl

no_comma : (s : List ℕ) → a_sign 44 (41 ∷ s) ≡ Err (length (41 ∷ s))
unfolding a_sign
no_comma s = refl

-- a value behind a comma, and the others
one_more : (text others : List ℕ) (literal : Literal) (found : List Literal × List ℕ) → a_literal (text ++ others) ≡ Ok (literal, others) → repeated a_literal others ≡ Ok found → repeated a_literal (44 ∷ (text ++ others)) ≡ Ok (literal ∷ found.0, found.1)
one_more text others literal found one rest = repeated_more a_literal literal_shrinks (44 ∷ (text ++ others)) (text ++ others) (comma_front (text ++ others)) ∙ rw (one, rest) refl

-- the values of a row
pub values-read : Sized → (columns : List Column) (values : Values) (rest : List ℕ) → 1 ≤ length columns → IsTrue (list_all (λ (c : Column). is_kind c.kind) columns) → IsTrue (hold columns values) →
    repeated a_literal (44 ∷ (values_text columns values ++ 41 ∷ rest)) ≡ Ok (value_literals columns values, 41 ∷ rest)
values-read sized [] values rest some valid fit = absurd (omega arith)
values-read sized (c ∷ columns) [] rest some valid fit = absurd (cc)
values-read sized (c ∷ []) (v ∷ []) rest some valid fit =
    let kind = and_parts (is_kind c.kind) true valid in
    let held = and_parts (holds c.kind v) true fit in
    one_more (value_text (scale_of c.kind) v) (41 ∷ rest) (literal_of (scale_of c.kind) v) ([], 41 ∷ rest)
    (value-read sized c.kind v (41 ∷ rest) kind.0 held.0 refl)
    (repeated_none a_literal (41 ∷ rest) (length (41 ∷ rest)) (no_comma rest))
values-read sized (c ∷ []) (v ∷ u ∷ values) rest some valid fit = absurd (let no = (and_parts (holds c.kind v) (hold [] (u ∷ values)) fit).1 in cc)
values-read sized (c ∷ d ∷ columns) (v ∷ []) rest some valid fit = absurd (let no = (and_parts (holds c.kind v) (hold (d ∷ columns) []) fit).1 in cc)
values-read sized (c ∷ d ∷ columns) (v ∷ u ∷ values) rest some valid fit =
    let kind = and_parts (is_kind c.kind) (list_all (λ (c : Column). is_kind c.kind) (d ∷ columns)) valid in
    let held = and_parts (holds c.kind v) (hold (d ∷ columns) (u ∷ values)) fit in
    let others : List ℕ = 44 ∷ (values_text (d ∷ columns) (u ∷ values) ++ 41 ∷ rest) in
    ap (λ (l : List ℕ). repeated a_literal (44 ∷ l)) (append_assoc (value_text (scale_of c.kind) v) (44 ∷ values_text (d ∷ columns) (u ∷ values)) (41 ∷ rest))
    ∙ one_more (value_text (scale_of c.kind) v) others (literal_of (scale_of c.kind) v) (value_literals (d ∷ columns) (u ∷ values), 41 ∷ rest)
    (value-read sized c.kind v others kind.0 held.0 refl)
    (values-read sized (d ∷ columns) (u ∷ values) rest (omega arith) kind.1 held.1)
