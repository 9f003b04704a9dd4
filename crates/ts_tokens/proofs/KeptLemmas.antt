-- A token stays where it is, whatever stands behind the next byte.
use Rattle.std.proofs.Common.{◌≡◌, ◌⊎◌, ℕ, suc, ◌+◌, ◌-◌, ◌≤◌, ◌==◌, ◌||◌, Bool, true, false, List, [], ◌∷◌, ◌++◌, length, length-append, append_assoc, take, Option, Some, None, refl, sym, ◌∙◌, ap, subst, arith, inl, inr}
use Rattle.std.proofs.Math.Seq.{take-append_seam, take-append-add}
use Rattle.std.proofs.lemmas.Bool.{cases_Bool, cases_lt, and_parts}
use Rattle.std.proofs.lemmas.Bool.Decides.{nat_tests}
use Rattle.std.proofs.lemmas.List.Folds.{list_all-append}
use Rattle.std.specs.List.{prefix_len, list_all}
use Rattle.std.specs.Char.{is_ascii_digit}
use Rattle.ts_base.specs.Name.{is_blank, begins_word, continues_word, is_text_byte}
use Rattle.ts_text.specs.Phrase.{digit_count}
use Rattle.ts_tokens.specs.NumberForm.{IsMagnitude, HasSign, IsNumber}
use Rattle.ts_tokens.specs.Tokens.{number_length, magnitude_length, closing, later, or_before, of_kind, front}
use Rattle.ts_text.specs.declared.token.TokenKind.{TokenKind}
use Rattle.ts_text.specs.declared.token.TokenKind.TheVariants.{Word, Number, Text}
use Rattle.ts_tokens.proofs.NumberFormLemmas.{digits_parts, digits_made, count-append, number_form, number_longest}
use Rattle.ts_text.proofs.CallerLemmas.{token_is, run_keeps}
use Rattle.ts_tokens.proofs.TokenLengths.{of_kind_is}

-- a text has a byte that closes it
pub closing_some : (s : List ℕ) (n : ℕ) → closing s ≡ Some n → 1 ≤ n
unfolding closing
closing_some [] n is = absurd (cc)
closing_some (b ∷ []) n is = elim (cases_Bool (b == 39)) [
  | inl t ↦ let at = rw t at is in let same : 1 ≡ n = cc in omega arith
  | inr f ↦ absurd (let no = rw f at is in cc)
]
closing_some (b ∷ c ∷ s) n is = elim (cases_Bool (b == 39)) [
  | inl t ↦ elim (cases_Bool (c == 39)) [
    | inl double ↦ by_end (closing s) (rw (t, double) at is)
    | inr single ↦ let at = rw (t, single) at is in let same : 1 ≡ n = cc in omega arith
  ]
  | inr f ↦ elim (cases_Bool (is_text_byte b)) [
    | inl text ↦ by_more (closing (c ∷ s)) (rw (f, text) at is)
    | inr other ↦ absurd (let no = rw (f, other) at is in cc)
  ]
] where
  by_end : (end : Option ℕ) → or_before (Some 1) (later 2 end) ≡ Some n → 1 ≤ n
  by_end None e = let same : 1 ≡ n = cc in omega arith
  by_end (Some m) e = let same : 2 + m ≡ n = cc in omega arith

  by_more : (end : Option ℕ) → later 1 end ≡ Some n → 1 ≤ n
  by_more None e = absurd (cc)
  by_more (Some m) e = let same : 1 + m ≡ n = cc in omega arith

-- so many bytes later
pub later_is : (i : ℕ) (end : Option ℕ) (n : ℕ) → later i end ≡ Some (i + n) → end ≡ Some n
later_is i None n is = absurd (cc)
later_is i (Some m) n is = let same : i + m ≡ i + n = cc in ap Some (omega (arith, same))

pub doubled_is : (end : Option ℕ) (n : ℕ) → or_before (Some 1) (later 2 end) ≡ Some (2 + n) → end ≡ Some n
doubled_is None n is = let same : 1 ≡ 2 + n = cc in absurd (omega (arith, same))
doubled_is (Some m) n is = let same : 2 + m ≡ 2 + n = cc in ap Some (omega (arith, same))

-- A text ends at the same byte: where a quote comes next, a text would stand there and the first would go on.
closing_keeps : (v s other : List ℕ) (b : ℕ) → ((b == 39) ≡ true → (end : ℕ) × (closing s ≡ Some end)) → closing (v ++ b ∷ s) ≡ Some (length v) → closing (v ++ b ∷ other) ≡ Some (length v)
unfolding closing
closing_keeps [] s other b text is = absurd (let some = closing_some (b ∷ s) 0 is in omega (arith, some))
closing_keeps (c ∷ []) s other b text is = elim (cases_Bool (c == 39)) [
  | inl t ↦ elim (cases_Bool (b == 39)) [
    | inl double ↦
        let stands = text double in
        let at = rw (t, double, stands.1) at is in
        let same : 2 + stands.0 ≡ 1 = cc in
        absurd (omega (arith, same))
    | inr single ↦ rw (t, single) refl
  ]
  | inr f ↦ elim (cases_Bool (is_text_byte c)) [
    | inl byte ↦
        let at : later 1 (closing (b ∷ s)) ≡ Some (1 + 0) = rw (f, byte) at is in
        absurd (let some = closing_some (b ∷ s) 0 (later_is 1 (closing (b ∷ s)) 0 at) in omega (arith, some))
    | inr no_byte ↦ absurd (let no = rw (f, no_byte) at is in cc)
  ]
]
closing_keeps (c ∷ d ∷ v) s other b text is = elim (cases_Bool (c == 39)) [
  | inl t ↦ elim (cases_Bool (d == 39)) [
    | inl double ↦
        let two : suc (suc (length v)) ≡ 2 + length v = omega arith in
        let at : or_before (Some 1) (later 2 (closing (v ++ b ∷ s))) ≡ Some (2 + length v) = (rw (t, double) at is) ∙ ap Some two in
        let more = closing_keeps v s other b text (doubled_is (closing (v ++ b ∷ s)) (length v) at) in
        rw (t, double, more) (ap Some (sym two))
    | inr single ↦
        let at = rw (t, single) at is in
        let same : 1 ≡ suc (suc (length v)) = cc in
        absurd (omega (arith, same))
  ]
  | inr f ↦ elim (cases_Bool (is_text_byte c)) [
    | inl byte ↦
        let next : suc (suc (length v)) ≡ 1 + length (d ∷ v) = omega arith in
        let at : later 1 (closing (d ∷ (v ++ b ∷ s))) ≡ Some (1 + length (d ∷ v)) = (rw (f, byte) at is) ∙ ap Some next in
        let more = closing_keeps (d ∷ v) s other b text (later_is 1 (closing (d ∷ (v ++ b ∷ s))) (length (d ∷ v)) at) in
        rw (f, byte, more) (ap Some (sym next))
    | inr no_byte ↦ absurd (let no = rw (f, no_byte) at is in cc)
  ]
]

-- a digit or a point
abbrev pub goes_on : ℕ → Bool
goes_on b = is_ascii_digit b || b == 46

digits_pass : (text : List ℕ) → list_all is_ascii_digit text ≡ true → list_all goes_on text ≡ true
digits_pass [] all = refl
digits_pass (b ∷ text) all =
    let parts = and_parts (is_ascii_digit b) (list_all is_ascii_digit text) all in
    rw parts.0 (digits_pass text parts.1)

magnitude_passes : (text : List ℕ) → IsMagnitude text → list_all goes_on text ≡ true
magnitude_passes text (inl digits) = digits_pass text (digits_parts text digits).1
magnitude_passes text (inr point) =
    ap (list_all goes_on) point.split ∙ list_all-append goes_on point.whole (46 ∷ point.fraction)
    ∙ rw (digits_pass point.whole (digits_parts point.whole point.before).1, digits_pass point.fraction (digits_parts point.fraction point.behind).1) refl

at_seam : (x t : List ℕ) (b : ℕ) → list_all goes_on (x ++ b ∷ t) ≡ true → goes_on b ≡ true
at_seam x t b all =
    let parts = and_parts (list_all goes_on x) (list_all goes_on (b ∷ t)) (sym (list_all-append goes_on x (b ∷ t)) ∙ all) in
    (and_parts (goes_on b) (list_all goes_on t) parts.1).0

-- behind its first byte a number has digits and a point
pub tail_byte : (c : ℕ) (x t : List ℕ) (b : ℕ) → IsMagnitude (c ∷ (x ++ b ∷ t)) ⊎ HasSign (c ∷ (x ++ b ∷ t)) → goes_on b ≡ true
tail_byte c x t b (inl form) = at_seam (c ∷ x) t b (magnitude_passes (c ∷ (x ++ b ∷ t)) form)
tail_byte c x t b (inr sign) =
    let rest : x ++ b ∷ t ≡ sign.magnitude = let e = sign.split in cc in
    at_seam x t b (rw rest (magnitude_passes sign.magnitude sign.form))

-- one digit more
longer_magnitude : (text : List ℕ) (b : ℕ) → is_ascii_digit b ≡ true → IsMagnitude text → IsMagnitude (text ++ b ∷ [])
longer_magnitude text b digit (inl digits) =
    let parts = digits_parts text digits in
    inl (digits_made (text ++ b ∷ []) (omega (arith, length-append text (b ∷ []))) (list_all-append is_ascii_digit text (b ∷ []) ∙ rw (parts.1, digit) refl))
longer_magnitude text b digit (inr point) =
    let parts = digits_parts point.fraction point.behind in
    inr (record {
      whole = point.whole;
      fraction = point.fraction ++ b ∷ [];
      split = ap (λ (l : List ℕ). l ++ b ∷ []) point.split ∙ append_assoc point.whole (46 ∷ point.fraction) (b ∷ []);
      before = point.before;
      behind = digits_made (point.fraction ++ b ∷ []) (omega (arith, length-append point.fraction (b ∷ []))) (list_all-append is_ascii_digit point.fraction (b ∷ []) ∙ rw (parts.1, digit) refl);
    })

longer_number : (text : List ℕ) (b : ℕ) → is_ascii_digit b ≡ true → IsMagnitude text ⊎ HasSign text → IsMagnitude (text ++ b ∷ []) ⊎ HasSign (text ++ b ∷ [])
longer_number text b digit (inl form) = inl (longer_magnitude text b digit form)
longer_number text b digit (inr sign) = inr (record {
  magnitude = sign.magnitude ++ b ∷ [];
  split = ap (λ (l : List ℕ). l ++ b ∷ []) sign.split;
  form = longer_magnitude sign.magnitude b digit sign.form;
})

-- a number ends at the same byte
number_keeps : (c : ℕ) (v s other : List ℕ) (b : ℕ) → (b == 46) ≡ false → number_length (c ∷ (v ++ b ∷ s)) ≡ Some (length (c ∷ v)) → number_length (c ∷ (v ++ b ∷ other)) ≡ Some (length (c ∷ v))
number_keeps c v s other b point is = elim (cases_lt (length u) found.0) [
  | inr le ↦ let same : found.0 ≡ length u = omega (arith, found.2) in found.1 ∙ ap Some same
  | inl longer ↦ absurd (by_more (found.0 - length u - 1) (omega arith))
] where
  u : List ℕ
  u = c ∷ v

  number : IsNumber u
  number = subst (λ (l : List ℕ). IsNumber l) (take-append_seam u (b ∷ s)) (number_form (u ++ b ∷ s) (length u) is)

  found : (m : ℕ) × (number_length (u ++ b ∷ other) ≡ Some m) × (length u ≤ m)
  found = number_longest (u ++ b ∷ other) (length u) (omega (arith, length-append u (b ∷ other))) (subst (λ (l : List ℕ). IsNumber l) (sym (take-append_seam u (b ∷ other))) number)

  by_more : (k : ℕ) → found.0 ≡ length u + suc k → ⊥
  by_more k size =
      let bytes : take found.0 (u ++ b ∷ other) ≡ u ++ b ∷ take k other = ap (λ (n : ℕ). take n (u ++ b ∷ other)) size ∙ take-append-add u (b ∷ other) (suc k) in
      let whole : IsNumber (u ++ b ∷ take k other) = subst (λ (l : List ℕ). IsNumber l) bytes (number_form (u ++ b ∷ other) found.0 found.1) in
      let on : goes_on b ≡ true = tail_byte c v (take k other) b whole.0 in
      let digit : is_ascii_digit b ≡ true = grind (arith, nat_tests) in
      let few : digit_count (u ++ b ∷ []) ≤ 38 = omega (arith, whole.1, count-append u (b ∷ take k other), count-append (b ∷ []) (take k other), count-append u (b ∷ [])) in
      let before : take (length u + 1) (u ++ b ∷ s) ≡ u ++ b ∷ [] = take-append-add u (b ∷ s) 1 in
      let again = number_longest (u ++ b ∷ s) (length u + 1) (omega (arith, length-append u (b ∷ s))) (subst (λ (l : List ℕ). IsNumber l) (sym before) (longer_number u b digit number.0, few)) in
      let same : Some (length u) ≡ Some again.0 = sym is ∙ again.1 in
      let sizes : length u ≡ again.0 = cc in
      omega (arith, again.2)

-- a point begins no token
point_begins_none : (s : List ℕ) → front (46 ∷ s) ≡ None
unfolding front number_length magnitude_length
point_begins_none s = refl

-- a byte that is blank or begins a token is no point
no_point : (b : ℕ) (s : List ℕ) → (is_blank b ≡ true) ⊎ ((t : TokenKind × ℕ) × (front (b ∷ s) ≡ Some t)) → (b == 46) ≡ false
no_point b s (inl blank) = grind (arith, nat_tests)
no_point b s (inr token) = elim (cases_Bool (b == 46)) [
  | inl t ↦
      let is : b ≡ 46 = grind (arith, nat_tests) in
      let at : front (46 ∷ s) ≡ Some token.0 = rw (← is) token.1 in
      let none : None ≡ Some token.0 = sym (point_begins_none s) ∙ at in
      absurd (cc)
  | inr f ↦ f
]

-- behind a quote that begins a text a text ends
quote_stands : (b : ℕ) (s : List ℕ) → (is_blank b ≡ true) ⊎ ((t : TokenKind × ℕ) × (front (b ∷ s) ≡ Some t)) → (b == 39) ≡ true → (end : ℕ) × (closing s ≡ Some end)
unfolding front
quote_stands b s (inl blank) quote = absurd (let is : b ≡ 39 = grind (arith, nat_tests) in let no = rw is at blank in cc)
quote_stands b s (inr token) quote = let is : b ≡ 39 = grind (arith, nat_tests) in by_end (closing s) refl (rw is at token.1) where
  by_end : (end : Option ℕ) → closing s ≡ end → of_kind Text (later 1 (closing s)) ≡ Some token.0 → (m : ℕ) × (closing s ≡ Some m)
  by_end None e at = absurd (let no = rw e at at in cc)
  by_end (Some m) e at = (m, e)

-- The token in front stays: behind it comes the same byte, which is blank or begins a token.
pub token_keeps : (c : ℕ) (v s other : List ℕ) (b : ℕ) (kind : TokenKind) → (is_blank b ≡ true) ⊎ ((t : TokenKind × ℕ) × (front (b ∷ s) ≡ Some t)) → front (c ∷ (v ++ b ∷ s)) ≡ Some (kind, length (c ∷ v)) → front (c ∷ (v ++ b ∷ other)) ≡ Some (kind, length (c ∷ v))
unfolding front
token_keeps c v s other b kind begins is = elim (cases_Bool (begins_word c)) [
  | inl t ↦
      let at = token_is Word kind (1 + prefix_len continues_word (v ++ b ∷ s)) (length (c ∷ v)) (rw t at is) in
      let same = run_keeps continues_word v s other b (omega (arith, at.1)) in
      rw (t, same) (ap (λ (k : TokenKind). Some (k, 1 + length v)) at.0 ∙ ap (λ (n : ℕ). Some (kind, n)) (omega arith))
  | inr f1 ↦ elim (cases_Bool (c == 39)) [
    | inl t ↦
        let at = of_kind_is Text kind (later 1 (closing (v ++ b ∷ s))) (length (c ∷ v)) (rw (f1, t) at is) in
        let next : length (c ∷ v) ≡ 1 + length v = omega arith in
        let same = closing_keeps v s other b (quote_stands b s begins) (later_is 1 (closing (v ++ b ∷ s)) (length v) (at.1 ∙ ap Some next)) in
        rw (f1, t, same) (ap (λ (k : TokenKind). Some (k, 1 + length v)) at.0 ∙ ap (λ (n : ℕ). Some (kind, n)) (sym next))
    | inr f2 ↦ elim (cases_Bool (c == 40 || c == 41 || c == 44)) [
      | inl t ↦ rw (f1, f2, t) (rw (f1, f2, t) at is)
      | inr f3 ↦
          let at = of_kind_is Number kind (number_length (c ∷ (v ++ b ∷ s))) (length (c ∷ v)) (rw (f1, f2, f3) at is) in
          let same = number_keeps c v s other b (no_point b s begins) at.1 in
          rw (f1, f2, f3, same) (ap (λ (k : TokenKind). Some (k, length (c ∷ v))) at.0)
    ]
  ]
]
