-- The tokens of statements are a front: where they end.
use Rattle.std.proofs.Common.{◌≡◌, ℕ, suc, ◌+◌, ◌-◌, ◌≤◌, ◌==◌, ◌||◌, true, false, List, [], ◌∷◌, ◌++◌, length, length-append, take, Option, Some, None, refl, sym, ◌∙◌, ap, subst, arith, inl, inr}
use Rattle.std.proofs.Math.Seq.{take-append_seam, take-append-add}
use Rattle.std.proofs.lemmas.Bool.{cases_Bool, cases_lt}
use Rattle.std.proofs.lemmas.Bool.Decides.{nat_tests}
use Rattle.std.specs.List.{prefix_len}
use Rattle.std.specs.Char.{is_ascii_digit}
use Rattle.ts_base.specs.Name.{is_blank, begins_word, continues_word, is_text_byte}
use Rattle.ts_text.specs.declared.token.TokenKind.{TokenKind}
use Rattle.ts_text.specs.declared.token.TokenKind.TheVariants.{Word, Number, Text}
use Rattle.ts_text.proofs.CallerLemmas.{IsFront, IsSign, token_is, run_stays, blank_ends_word, IsEnding}
use Rattle.ts_tokens.specs.NumberForm.{IsNumber}
use Rattle.ts_tokens.specs.Tokens.{number_length, magnitude_length, closing, later, front}
use Rattle.ts_tokens.proofs.NumberFormLemmas.{number_form, number_longest}
use Rattle.ts_tokens.proofs.KeptLemmas.{closing_some, later_is, doubled_is, goes_on, tail_byte, token_keeps}
use Rattle.ts_tokens.proofs.TokenLemmas.{text_byte, other_byte}
use Rattle.ts_tokens.proofs.TokenLengths.{of_kind_is, front_some, front_within}

-- a blank begins no token
blank_begins_none : (b : ℕ) (s : List ℕ) → is_blank b ≡ true → front (b ∷ s) ≡ None
unfolding front number_length magnitude_length
blank_begins_none b s blank =
    let word : begins_word b ≡ false = grind (arith, nat_tests) in
    let quote : (b == 39) ≡ false = grind (arith, nat_tests) in
    let sign : (b == 40 || b == 41 || b == 44) ≡ false = grind (arith, nat_tests) in
    let minus : (b == 45) ≡ false = grind (arith, nat_tests) in
    let digit : is_ascii_digit b ≡ false = grind (arith, nat_tests) in
    rw (word, quote, sign, minus, digit) refl

shows : (b : ℕ) (s : List ℕ) (t : TokenKind × ℕ) → front (b ∷ s) ≡ Some t → is_blank b ≡ false
shows b s t is = elim (cases_Bool (is_blank b)) [
  | inl blank ↦ let no : None ≡ Some t = sym (blank_begins_none b s blank) ∙ is in absurd (cc)
  | inr f ↦ f
]

-- a text ends before a blank where it ended
closing_stays : (v s other : List ℕ) (b : ℕ) → (b == 39) ≡ false → closing (v ++ s) ≡ Some (length v) → closing (v ++ b ∷ other) ≡ Some (length v)
unfolding closing
closing_stays [] s other b differs is = absurd (let some = closing_some s 0 is in omega (arith, some))
closing_stays (c ∷ []) s other b differs is = elim (cases_Bool (c == 39)) [
  | inl t ↦ rw (t, differs) refl
  | inr f ↦ elim (cases_Bool (is_text_byte c)) [
    | inl byte ↦
        let at : later 1 (closing s) ≡ Some (1 + 0) = sym (text_byte c s f byte) ∙ is in
        absurd (let some = closing_some s 0 (later_is 1 (closing s) 0 at) in omega (arith, some))
    | inr no_byte ↦ let at : ◌≡◌ {A = Option ℕ} None (Some 1) = sym (other_byte c s f no_byte) ∙ is in absurd (cc)
  ]
]
closing_stays (c ∷ d ∷ v) s other b differs is = elim (cases_Bool (c == 39)) [
  | inl t ↦ elim (cases_Bool (d == 39)) [
    | inl double ↦
        let two : suc (suc (length v)) ≡ 2 + length v = omega arith in
        let more = closing_stays v s other b differs (doubled_is (closing (v ++ s)) (length v) ((rw (t, double) at is) ∙ ap Some two)) in
        rw (t, double, more) (ap Some (sym two))
    | inr single ↦
        let at = rw (t, single) at is in
        let same : 1 ≡ suc (suc (length v)) = cc in
        absurd (omega (arith, same))
  ]
  | inr f ↦ elim (cases_Bool (is_text_byte c)) [
    | inl byte ↦
        let next : suc (suc (length v)) ≡ 1 + length (d ∷ v) = omega arith in
        let more = closing_stays (d ∷ v) s other b differs (later_is 1 (closing (d ∷ (v ++ s))) (length (d ∷ v)) ((rw (f, byte) at is) ∙ ap Some next)) in
        rw (f, byte, more) (ap Some (sym next))
    | inr no_byte ↦ absurd (let no = rw (f, no_byte) at is in cc)
  ]
]

-- a number ends before a blank where it ended
number_stays : (c : ℕ) (v s other : List ℕ) (b : ℕ) → is_blank b ≡ true → number_length (c ∷ (v ++ s)) ≡ Some (length (c ∷ v)) → number_length (c ∷ (v ++ b ∷ other)) ≡ Some (length (c ∷ v))
number_stays c v s other b blank is = elim (cases_lt (length u) found.0) [
  | inr le ↦ let same : found.0 ≡ length u = omega (arith, found.2) in found.1 ∙ ap Some same
  | inl longer ↦ absurd (by_more (found.0 - length u - 1) (omega arith))
] where
  u : List ℕ
  u = c ∷ v

  number : IsNumber u
  number = subst (λ (l : List ℕ). IsNumber l) (take-append_seam u s) (number_form (u ++ s) (length u) is)

  found : (m : ℕ) × (number_length (u ++ b ∷ other) ≡ Some m) × (length u ≤ m)
  found = number_longest (u ++ b ∷ other) (length u) (omega (arith, length-append u (b ∷ other))) (subst (λ (l : List ℕ). IsNumber l) (sym (take-append_seam u (b ∷ other))) number)

  no_more : goes_on b ≡ true → ⊥
  no_more on = let no : goes_on b ≡ false = grind (arith, nat_tests) in absurd (cc)

  by_more : (k : ℕ) → found.0 ≡ length u + suc k → ⊥
  by_more k size =
      let bytes : take found.0 (u ++ b ∷ other) ≡ u ++ b ∷ take k other = ap (λ (n : ℕ). take n (u ++ b ∷ other)) size ∙ take-append-add u (b ∷ other) (suc k) in
      let whole : IsNumber (u ++ b ∷ take k other) = subst (λ (l : List ℕ). IsNumber l) bytes (number_form (u ++ b ∷ other) found.0 found.1) in
      no_more (tail_byte c v (take k other) b whole.0)

-- a token stays before a blank
token_stays : (c : ℕ) (v s other : List ℕ) (b : ℕ) (kind : TokenKind) → is_blank b ≡ true → front (c ∷ (v ++ s)) ≡ Some (kind, length (c ∷ v)) → front (c ∷ (v ++ b ∷ other)) ≡ Some (kind, length (c ∷ v))
unfolding front
token_stays c v s other b kind blank is = elim (cases_Bool (begins_word c)) [
  | inl t ↦
      let at = token_is Word kind (1 + prefix_len continues_word (v ++ s)) (length (c ∷ v)) (rw t at is) in
      let same = run_stays continues_word v s other b (blank_ends_word b blank) (omega (arith, at.1)) in
      rw (t, same) (ap (λ (k : TokenKind). Some (k, 1 + length v)) at.0 ∙ ap (λ (n : ℕ). Some (kind, n)) (omega arith))
  | inr f1 ↦ elim (cases_Bool (c == 39)) [
    | inl t ↦
        let at = of_kind_is Text kind (later 1 (closing (v ++ s))) (length (c ∷ v)) (rw (f1, t) at is) in
        let next : length (c ∷ v) ≡ 1 + length v = omega arith in
        let quote : (b == 39) ≡ false = grind (arith, nat_tests) in
        let same = closing_stays v s other b quote (later_is 1 (closing (v ++ s)) (length v) (at.1 ∙ ap Some next)) in
        rw (f1, t, same) (ap (λ (k : TokenKind). Some (k, 1 + length v)) at.0 ∙ ap (λ (n : ℕ). Some (kind, n)) (sym next))
    | inr f2 ↦ elim (cases_Bool (c == 40 || c == 41 || c == 44)) [
      | inl t ↦ rw (f1, f2, t) (rw (f1, f2, t) at is)
      | inr f3 ↦
          let at = of_kind_is Number kind (number_length (c ∷ (v ++ s))) (length (c ∷ v)) (rw (f1, f2, f3) at is) in
          let same = number_stays c v s other b blank at.1 in
          rw (f1, f2, f3, same) (ap (λ (k : TokenKind). Some (k, length (c ∷ v))) at.0)
    ]
  ]
]

-- what the grammar of statements stands on
pub front_laws : IsFront front
front_laws = record {
  some = front_some;
  within = front_within;
  shows = shows;
  keeps = λ c more rest other b kind token begins is. token_keeps c more rest other b kind (inr (token, begins)) is;
  stays = λ c more rest other b kind blank is. token_stays c more rest other b kind blank is;
}

-- the `;` ends a statement
pub front_ending : IsEnding front (59 ∷ [])
unfolding front number_length magnitude_length
front_ending = record { none = refl; shows = refl }

pub open_sign : IsSign front 40
unfolding front
open_sign bytes = refl

pub close_sign : IsSign front 41
unfolding front
close_sign bytes = refl

pub comma_sign : IsSign front 44
unfolding front
comma_sign bytes = refl
