-- The tokens of expressions: where they end.
use Rattle.std.proofs.Common.{◌≡◌, ℕ, ◌+◌, ◌<◌, ◌≤◌, true, false, List, [], ◌∷◌, ◌++◌, length, Some, refl, sym, ◌∙◌, ap, arith, inl, inr}
use Rattle.std.proofs.lemmas.Bool.{cases_Bool, and_parts}
use Rattle.std.proofs.lemmas.Bool.Decides.{nat_tests}
use Rattle.std.specs.List.{prefix_len, list_all}
use Rattle.std.specs.Char.{is_ascii_digit}
use Rattle.ts_base.specs.Name.{is_blank, begins_word, continues_word, is_word}
use Rattle.ts_base.specs.Moment.{all_digits}
use Rattle.ts_text.specs.Phrase.{is_sign, plain_front}
use Rattle.ts_text.specs.declared.token.TokenKind.{TokenKind}
use Rattle.ts_text.specs.declared.token.TokenKind.TheVariants.{Word, Number, Sign}
use Rattle.ts_text.proofs.CallerLemmas.{IsFront, IsSign, plain_laws, plain_sign, run_keeps, token_is, word_stands, digits_stand}
use Rattle.ts_running.specs.Grammar.{is_operator, expr_front}

-- an operator is a token by itself
pub operator_front : (b : ℕ) (bytes : List ℕ) → is_operator b ≡ true → expr_front (b ∷ bytes) ≡ Some (Sign, 1)
unfolding expr_front
operator_front b bytes t = rw t refl

-- what begins with no operator has the tokens of aggregate lists
pub plain_is : (b : ℕ) (bytes : List ℕ) → is_operator b ≡ false → expr_front (b ∷ bytes) ≡ plain_front (b ∷ bytes)
unfolding expr_front
plain_is b bytes f = rw f refl

nothing : (kind : TokenKind) (size : ℕ) → expr_front [] ≡ Some (kind, size) → ⊥
unfolding expr_front
nothing kind size is = absurd (cc)

-- a plain token before the same byte
plain_keeps : (c : ℕ) (more rest other : List ℕ) (b : ℕ) (kind : TokenKind) → plain_front (c ∷ (more ++ b ∷ rest)) ≡ Some (kind, length (c ∷ more)) →
    plain_front (c ∷ (more ++ b ∷ other)) ≡ Some (kind, length (c ∷ more))
unfolding plain_front
plain_keeps c more rest other b kind is = elim (cases_Bool (begins_word c)) [
  | inl t ↦
      let at = token_is Word kind (1 + prefix_len continues_word (more ++ b ∷ rest)) (length (c ∷ more)) (rw t at is) in
      let run = run_keeps continues_word more rest other b (omega (arith, at.1)) in
      let size : 1 + prefix_len continues_word (more ++ b ∷ other) ≡ length (c ∷ more) = omega (arith, run) in
      rw t (ap (λ (n : ℕ). Some (Word, n)) size ∙ ap (λ (k : TokenKind). Some (k, length (c ∷ more))) at.0)
  | inr f1 ↦ elim (cases_Bool (is_ascii_digit c)) [
    | inl t ↦
        let at = token_is Number kind (1 + prefix_len is_ascii_digit (more ++ b ∷ rest)) (length (c ∷ more)) (rw (f1, t) at is) in
        let run = run_keeps is_ascii_digit more rest other b (omega (arith, at.1)) in
        let size : 1 + prefix_len is_ascii_digit (more ++ b ∷ other) ≡ length (c ∷ more) = omega (arith, run) in
        rw (f1, t) (ap (λ (n : ℕ). Some (Number, n)) size ∙ ap (λ (k : TokenKind). Some (k, length (c ∷ more))) at.0)
    | inr f2 ↦ elim (cases_Bool (is_sign c)) [
      | inl t ↦ let at : Some (Sign, 1) ≡ Some (kind, length (c ∷ more)) = rw (f1, f2, t) at is in rw (f1, f2, t) at
      | inr f3 ↦ absurd (let none = rw (f1, f2, f3) at is in cc)
    ]
  ]
]

size_is : (bytes : List ℕ) (kind : TokenKind) (size : ℕ) → expr_front bytes ≡ Some (kind, size) → (0 < size) × (size ≤ length bytes)
size_is [] kind size is = absurd (nothing kind size is)
size_is (b ∷ bytes) kind size is = elim (cases_Bool (is_operator b)) [
  | inl t ↦ let at = token_is Sign kind 1 size (sym (operator_front b bytes t) ∙ is) in (omega (arith, at.1), omega (arith, at.1))
  | inr f ↦
      let at = sym (plain_is b bytes f) ∙ is in
      (plain_laws.some (b ∷ bytes) kind size at, plain_laws.within (b ∷ bytes) kind size at)
]

operator_shows : (b : ℕ) → is_operator b ≡ true → is_blank b ≡ false
operator_shows b t = grind (arith, nat_tests)

shows_is : (b : ℕ) (bytes : List ℕ) (token : TokenKind × ℕ) → expr_front (b ∷ bytes) ≡ Some token → is_blank b ≡ false
shows_is b bytes token is = elim (cases_Bool (is_operator b)) [
  | inl t ↦ operator_shows b t
  | inr f ↦ plain_laws.shows b bytes token (sym (plain_is b bytes f) ∙ is)
]

keeps_is : (c : ℕ) (more rest other : List ℕ) (b : ℕ) (kind : TokenKind) →
    expr_front (c ∷ (more ++ b ∷ rest)) ≡ Some (kind, length (c ∷ more)) → expr_front (c ∷ (more ++ b ∷ other)) ≡ Some (kind, length (c ∷ more))
keeps_is c more rest other b kind is = elim (cases_Bool (is_operator c)) [
  | inl t ↦ operator_front c (more ++ b ∷ other) t ∙ sym (operator_front c (more ++ b ∷ rest) t) ∙ is
  | inr f ↦ plain_is c (more ++ b ∷ other) f ∙ plain_keeps c more rest other b kind (sym (plain_is c (more ++ b ∷ rest) f) ∙ is)
]

stays_is : (c : ℕ) (more rest other : List ℕ) (b : ℕ) (kind : TokenKind) → is_blank b ≡ true →
    expr_front (c ∷ (more ++ rest)) ≡ Some (kind, length (c ∷ more)) → expr_front (c ∷ (more ++ b ∷ other)) ≡ Some (kind, length (c ∷ more))
stays_is c more rest other b kind blank is = elim (cases_Bool (is_operator c)) [
  | inl t ↦ operator_front c (more ++ b ∷ other) t ∙ sym (operator_front c (more ++ rest) t) ∙ is
  | inr f ↦ plain_is c (more ++ b ∷ other) f ∙ plain_laws.stays c more rest other b kind blank (sym (plain_is c (more ++ rest) f) ∙ is)
]

-- what the grammar stands on
pub expr_laws : IsFront expr_front
expr_laws = record {
  some = λ bytes kind size is. (size_is bytes kind size is).0;
  within = λ bytes kind size is. (size_is bytes kind size is).1;
  shows = shows_is;
  keeps = λ c more rest other b kind token begins is. keeps_is c more rest other b kind is;
  stays = stays_is;
}

-- the signs of operations, and those of aggregate lists
pub operator_sign : (sign : ℕ) → is_operator sign ≡ true → IsSign expr_front sign
operator_sign sign t bytes = operator_front sign bytes t

pub other_sign : (sign : ℕ) → is_operator sign ≡ false → begins_word sign ≡ false → is_ascii_digit sign ≡ false → is_sign sign ≡ true → IsSign expr_front sign
other_sign sign f f1 f2 t bytes = plain_is sign bytes f ∙ plain_sign sign f1 f2 t bytes

-- a word stands in front where no byte behind it goes on
pub word_front : (word rest : List ℕ) → is_word word ≡ true → prefix_len continues_word rest ≡ 0 → expr_front (word ++ rest) ≡ Some (Word, length word)
word_front [] rest is none = absurd (cc)
word_front (b ∷ word) rest is none =
    let parts = and_parts (begins_word b) (list_all continues_word word) is in
    let plain : is_operator b ≡ false = plain_word b parts.0 in
    plain_is b (word ++ rest) plain ∙ word_stands (b ∷ word) rest is none
  where
    plain_word : (b : ℕ) → begins_word b ≡ true → is_operator b ≡ false
    plain_word b t = grind (arith, nat_tests)

-- and so do digits
pub digits_front : (digits rest : List ℕ) → all_digits digits ≡ true → 0 < length digits → prefix_len is_ascii_digit rest ≡ 0 → expr_front (digits ++ rest) ≡ Some (Number, length digits)
digits_front [] rest is some none = absurd (omega arith)
digits_front (b ∷ digits) rest is some none =
    let parts = and_parts (is_ascii_digit b) (list_all is_ascii_digit digits) is in
    let plain : is_operator b ≡ false = plain_digit b parts.0 in
    plain_is b (digits ++ rest) plain ∙ digits_stand (b ∷ digits) rest is some none
  where
    plain_digit : (b : ℕ) → is_ascii_digit b ≡ true → is_operator b ≡ false
    plain_digit b t = grind (arith, nat_tests)
