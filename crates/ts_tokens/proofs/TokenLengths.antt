-- How long tokens are, and how many digits a number has.
use Rattle.std.proofs.Common.{◌≡◌, ℕ, suc, ◌+◌, ◌-◌, ◌<◌, ◌≤◌, ◌==◌, ◌||◌, false, cond, List, [], ◌∷◌, ◌++◌, length, take, drop, Option, Some, None, refl, ◌∙◌, ap, arith, inl, inr}
use Rattle.std.proofs.Math.Seq.{take-add}
use Rattle.std.proofs.lemmas.Bool.{cases_Bool, cases_eq}
use Rattle.std.proofs.lemmas.Bool.Decides.{nat_tests}
use Rattle.std.proofs.lemmas.List.{length-take, length-drop}
use Rattle.std.proofs.lemmas.List.Sums.{count_by-le-length, sum_by-append}
use Rattle.std.specs.List.{prefix_len}
use Rattle.std.specs.Char.{is_ascii_digit}
use Rattle.ts_base.specs.Name.{begins_word, continues_word, is_text_byte}
use Rattle.std.proofs.lemmas.List.Sums.{prefix_len-le-length}
use Rattle.ts_tokens.specs.Tokens.{with_point, fraction_length, magnitude_length, number_length, signed_length, closing, later, or_before, of_kind, front}
use Rattle.ts_text.specs.Phrase.{digits_in_front, digit_count}
use Rattle.ts_text.specs.declared.token.TokenKind.{TokenKind}
use Rattle.ts_text.specs.declared.token.TokenKind.TheVariants.{Word, Number, Text, Sign}
use Rattle.ts_text.proofs.CallerLemmas.{token_is}

pub digits_in_front-le : (room : ℕ) (s : List ℕ) → digits_in_front room s ≤ room
digits_in_front-le room s = omega (arith, prefix_len-le-length is_ascii_digit (take room s), length-take room s)

digit_count-take : (n : ℕ) (s : List ℕ) → digit_count (take n s) ≤ n
digit_count-take n s = omega (arith, count_by-le-length is_ascii_digit (take n s), length-take n s)

digit_count-append : (a b : List ℕ) → digit_count (a ++ b) ≡ digit_count a + digit_count b
digit_count-append a b = sum_by-append (λ (x : ℕ). cond (is_ascii_digit x) 1 0) a b

-- a point is no digit
digit_count-point : (n : ℕ) (s : List ℕ) → digit_count (take (1 + n) (46 ∷ s)) ≡ digit_count (take n s)
digit_count-point n s = let next : 1 + n ≡ suc n = omega arith in rw next (omega arith)

-- so many digits behind a point
fraction_digits : (room : ℕ) (s : List ℕ) → (digit_count (take (fraction_length room s) s) ≤ room) × (fraction_length room s ≤ room + 1)
unfolding fraction_length
fraction_digits room [] = (omega arith, omega arith)
fraction_digits room (b ∷ s) = elim (cases_eq b 46) [
  | inl is ↦ rw is (by_count (digits_in_front room s) (digits_in_front-le room s))
  | inr other ↦ let differs : (b == 46) ≡ false = grind (arith, nat_tests) in rw differs (omega arith, omega arith)
] where
  by_count : (n : ℕ) → n ≤ room → (digit_count (take (with_point n) (46 ∷ s)) ≤ room) × (with_point n ≤ room + 1)
  by_count n le = elim (cases_eq n 0) [
    | inl none ↦ rw none (omega arith, omega arith)
    | inr some ↦ let differs : (n == 0) ≡ false = grind (arith, nat_tests) in rw differs (omega (arith, digit_count-point n s, digit_count-take n s), omega arith)
  ]

magnitude_digits : (s : List ℕ) → (digit_count (take (magnitude_length s) s) ≤ 38) × (magnitude_length s ≤ 39)
unfolding magnitude_length
magnitude_digits s = elim (cases_eq (digits_in_front 38 s) 0) [
  | inl none ↦ rw none (omega arith, omega arith)
  | inr some ↦
      let w : ℕ = digits_in_front 38 s in
      let differs : (w == 0) ≡ false = grind (arith, nat_tests) in
      let most : w ≤ 38 = digits_in_front-le 38 s in
      let rest = fraction_digits (38 - w) (drop w s) in
      let f : ℕ = fraction_length (38 - w) (drop w s) in
      let split = ap digit_count (take-add w f s) ∙ digit_count-append (take w s) (take f (drop w s)) in
      rw differs (omega (arith, split, digit_count-take w s, rest), omega (arith, rest))
]

-- a number has at most 38 digits, and at most 40 bytes
pub number_digits : (s : List ℕ) (n : ℕ) → number_length s ≡ Some n → (digit_count (take n s) ≤ 38) × (n ≤ 40)
unfolding number_length
number_digits [] n e = absurd (cc)
number_digits (b ∷ s) n e = elim (cases_eq b 45) [
  | inl is ↦ signed (magnitude_length s) (magnitude_digits s) (rw is at e) is
  | inr other ↦ let differs : (b == 45) ≡ false = grind (arith, nat_tests) in unsigned (magnitude_length (b ∷ s)) (magnitude_digits (b ∷ s)) (rw differs at e)
] where
  signed : (m : ℕ) → (digit_count (take m s) ≤ 38) × (m ≤ 39) → signed_length 1 m ≡ Some n → b ≡ 45 → (digit_count (take n (b ∷ s)) ≤ 38) × (n ≤ 40)
  signed m most is sign = elim (cases_eq m 0) [
    | inl none ↦ absurd (let no = rw none at is in cc)
    | inr some ↦
        let differs : (m == 0) ≡ false = grind (arith, nat_tests) in
        let size = rw differs at is in
        let same : 1 + m ≡ n = cc in
        let next : 1 + m ≡ suc m = omega arith in
        rw (← same, sign, next) (omega (arith, most.0), omega (arith, most.1))
  ]

  unsigned : (m : ℕ) → (digit_count (take m (b ∷ s)) ≤ 38) × (m ≤ 39) → signed_length 0 m ≡ Some n → (digit_count (take n (b ∷ s)) ≤ 38) × (n ≤ 40)
  unsigned m most is = elim (cases_eq m 0) [
    | inl none ↦ absurd (let no = rw none at is in cc)
    | inr some ↦
        let differs : (m == 0) ≡ false = grind (arith, nat_tests) in
        let size = rw differs at is in
        let same : 0 + m ≡ n = cc in
        let is_m : m ≡ n = omega (arith, same) in
        rw (← is_m) (most.0, omega (arith, most.1))
  ]

-- what is so long
pub of_kind_is : (kind found : TokenKind) (size : Option ℕ) (n : ℕ) → of_kind kind size ≡ Some (found, n) → (kind ≡ found) × (size ≡ Some n)
of_kind_is kind found None n is = absurd (cc)
of_kind_is kind found (Some m) n is = let same = token_is kind found m n is in (same.0, ap Some same.1)

-- the number in front
front_number : (s : List ℕ) (n : ℕ) → front s ≡ Some (Number, n) → number_length s ≡ Some n
unfolding front
front_number [] n is = absurd (cc)
front_number (b ∷ s) n is = elim (cases_Bool (begins_word b)) [
  | inl t ↦ let no = (token_is Word Number (1 + prefix_len continues_word s) n (rw t at is)).0 in absurd (cc)
  | inr f1 ↦ elim (cases_Bool (b == 39)) [
    | inl t ↦ let no = (of_kind_is Text Number (later 1 (closing s)) n (rw (f1, t) at is)).0 in absurd (cc)
    | inr f2 ↦ elim (cases_Bool (b == 40 || b == 41 || b == 44)) [
      | inl t ↦ let no = (token_is Sign Number 1 n (rw (f1, f2, t) at is)).0 in absurd (cc)
      | inr f3 ↦ (of_kind_is Number Number (number_length (b ∷ s)) n (rw (f1, f2, f3) at is)).1
    ]
  ]
]

-- a number token has at most 38 digits, and at most 40 bytes
pub number_token : (s token : List ℕ) (kind : TokenKind) (n : ℕ) → front s ≡ Some (kind, n) → kind ≡ Number → token ≡ take n s → (digit_count token ≤ 38) × (length token ≤ 40)
number_token s token kind n is number bytes =
    let most = number_digits s n (front_number s n (rw number at is)) in
    rw bytes (most.0, omega (arith, most.1, length-take n s))

-- so many bytes later
later_past : (i : ℕ) (end : Option ℕ) (n : ℕ) → later i end ≡ Some n → i ≤ n
later_past i None n is = absurd (cc)
later_past i (Some end) n is = let same : i + end ≡ n = cc in omega arith

signed_some : (sign m n : ℕ) → signed_length sign m ≡ Some n → 0 < n
signed_some sign m n is = elim (cases_eq m 0) [
  | inl none ↦ absurd (let no = rw none at is in cc)
  | inr some ↦
      let differs : (m == 0) ≡ false = grind (arith, nat_tests) in
      let size = rw differs at is in
      let same : sign + m ≡ n = cc in
      omega arith
]

number_some : (s : List ℕ) (n : ℕ) → number_length s ≡ Some n → 0 < n
unfolding number_length
number_some [] n is = absurd (cc)
number_some (b ∷ s) n is = elim (cases_Bool (b == 45)) [
  | inl t ↦ signed_some 1 (magnitude_length s) n (rw t at is)
  | inr f ↦ signed_some 0 (magnitude_length (b ∷ s)) n (rw f at is)
]

-- a token has a byte
pub front_some : (s : List ℕ) (kind : TokenKind) (n : ℕ) → front s ≡ Some (kind, n) → 0 < n
unfolding front
front_some [] kind n is = absurd (cc)
front_some (b ∷ s) kind n is = elim (cases_Bool (begins_word b)) [
  | inl t ↦ let same = (token_is Word kind (1 + prefix_len continues_word s) n (rw t at is)).1 in omega arith
  | inr f1 ↦ elim (cases_Bool (b == 39)) [
    | inl t ↦ let past = later_past 1 (closing s) n (of_kind_is Text kind (later 1 (closing s)) n (rw (f1, t) at is)).1 in omega arith
    | inr f2 ↦ elim (cases_Bool (b == 40 || b == 41 || b == 44)) [
      | inl t ↦ let same = (token_is Sign kind 1 n (rw (f1, f2, t) at is)).1 in omega arith
      | inr f3 ↦ number_some (b ∷ s) n (of_kind_is Number kind (number_length (b ∷ s)) n (rw (f1, f2, f3) at is)).1
    ]
  ]
]

-- an end so many bytes later
later_within : (i : ℕ) (end : Option ℕ) (n size : ℕ) → ((m : ℕ) → end ≡ Some m → m ≤ size) → later i end ≡ Some n → n ≤ i + size
later_within i None n size within is = absurd (cc)
later_within i (Some m) n size within is = let same : i + m ≡ n = cc in omega (arith, within m refl)

-- the later end, or one behind the first byte
or_within : (end : Option ℕ) (n size : ℕ) → 1 ≤ size → ((m : ℕ) → end ≡ Some m → m ≤ size) → or_before (Some 1) end ≡ Some n → n ≤ size
or_within None n size some within is = let same : 1 ≡ n = cc in omega arith
or_within (Some m) n size some within is = let same : m ≡ n = cc in omega (arith, within m refl)

-- a text ends within the bytes
closing_within : (s : List ℕ) (n : ℕ) → closing s ≡ Some n → n ≤ length s
unfolding closing
closing_within [] n is = absurd (cc)
closing_within (b ∷ []) n is = elim (cases_Bool (b == 39)) [
  | inl t ↦ let at = rw t at is in let same : 1 ≡ n = cc in omega arith
  | inr f ↦ absurd (let no = rw f at is in cc)
]
closing_within (b ∷ c ∷ s) n is = elim (cases_Bool (b == 39)) [
  | inl t ↦ elim (cases_Bool (c == 39)) [
    | inl double ↦
        let le = or_within (later 2 (closing s)) n (2 + length s) (omega arith) (λ m e. later_within 2 (closing s) m (length s) (closing_within s) e) (rw (t, double) at is) in
        omega (arith, le)
    | inr single ↦ let at = rw (t, single) at is in let same : 1 ≡ n = cc in omega arith
  ]
  | inr f ↦ elim (cases_Bool (is_text_byte b)) [
    | inl text ↦ let le = later_within 1 (closing (c ∷ s)) n (length (c ∷ s)) (closing_within (c ∷ s)) (rw (f, text) at is) in omega (arith, le)
    | inr other ↦ absurd (let no = rw (f, other) at is in cc)
  ]
]

pub digits_in_front-within : (room : ℕ) (s : List ℕ) → digits_in_front room s ≤ length s
digits_in_front-within room s = omega (arith, prefix_len-le-length is_ascii_digit (take room s), length-take room s)

with_point-le : (count : ℕ) → with_point count ≤ 1 + count
with_point-le count = elim (cases_eq count 0) [
  | inl none ↦ rw none (omega arith)
  | inr some ↦ let differs : (count == 0) ≡ false = grind (arith, nat_tests) in rw differs (omega arith)
]

fraction_within : (room : ℕ) (s : List ℕ) → fraction_length room s ≤ length s
unfolding fraction_length
fraction_within room [] = omega arith
fraction_within room (b ∷ s) = elim (cases_Bool (b == 46)) [
  | inl t ↦ rw t (omega (arith, with_point-le (digits_in_front room s), digits_in_front-within room s))
  | inr f ↦ rw f (omega arith)
]

magnitude_within : (s : List ℕ) → magnitude_length s ≤ length s
unfolding magnitude_length
magnitude_within s = elim (cases_eq (digits_in_front 38 s) 0) [
  | inl none ↦ rw none (omega arith)
  | inr some ↦
      let w : ℕ = digits_in_front 38 s in
      let differs : (w == 0) ≡ false = grind (arith, nat_tests) in
      rw differs (omega (arith, digits_in_front-within 38 s, fraction_within (38 - w) (drop w s), length-drop w s))
]

signed_within : (sign m n size : ℕ) → m ≤ size → signed_length sign m ≡ Some n → n ≤ sign + size
signed_within sign m n size within is = elim (cases_eq m 0) [
  | inl none ↦ absurd (let no = rw none at is in cc)
  | inr some ↦
      let differs : (m == 0) ≡ false = grind (arith, nat_tests) in
      let at = rw differs at is in
      let same : sign + m ≡ n = cc in
      omega arith
]

number_within : (s : List ℕ) (n : ℕ) → number_length s ≡ Some n → n ≤ length s
unfolding number_length
number_within [] n is = absurd (cc)
number_within (b ∷ s) n is = elim (cases_Bool (b == 45)) [
  | inl t ↦ let le = signed_within 1 (magnitude_length s) n (length s) (magnitude_within s) (rw t at is) in omega (arith, le)
  | inr f ↦ let le = signed_within 0 (magnitude_length (b ∷ s)) n (length (b ∷ s)) (magnitude_within (b ∷ s)) (rw f at is) in omega (arith, le)
]

-- a token ends within the bytes
pub front_within : (s : List ℕ) (kind : TokenKind) (n : ℕ) → front s ≡ Some (kind, n) → n ≤ length s
unfolding front
front_within [] kind n is = absurd (cc)
front_within (b ∷ s) kind n is = elim (cases_Bool (begins_word b)) [
  | inl t ↦ let same = (token_is Word kind (1 + prefix_len continues_word s) n (rw t at is)).1 in omega (arith, prefix_len-le-length continues_word s)
  | inr f1 ↦ elim (cases_Bool (b == 39)) [
    | inl t ↦ let le = later_within 1 (closing s) n (length s) (closing_within s) (of_kind_is Text kind (later 1 (closing s)) n (rw (f1, t) at is)).1 in omega (arith, le)
    | inr f2 ↦ elim (cases_Bool (b == 40 || b == 41 || b == 44)) [
      | inl t ↦ let same = (token_is Sign kind 1 n (rw (f1, f2, t) at is)).1 in omega arith
      | inr f3 ↦ number_within (b ∷ s) n (of_kind_is Number kind (number_length (b ∷ s)) n (rw (f1, f2, f3) at is)).1
    ]
  ]
]
