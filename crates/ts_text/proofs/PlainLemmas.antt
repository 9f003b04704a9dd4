-- The tokens of patterns, calendars and lists of aggregates: where they end.
use Rattle.std.proofs.Common.{◌≡◌, ℕ, suc, ◌+◌, ◌<◌, ◌≤◌, Bool, true, false, List, [], ◌∷◌, ◌++◌, length, take, Option, Some, refl, ◌∙◌, ap, subst, arith, inl, inr}
use Rattle.std.proofs.lemmas.Bool.{cases_Bool, and_parts}
use Rattle.std.proofs.lemmas.Bool.Decides.{nat_tests}
use Rattle.std.proofs.lemmas.List.Sums.{prefix_len-le-length}
use Rattle.std.specs.List.{prefix_len, list_all}
use Rattle.std.specs.Char.{is_ascii_digit}
use Rattle.ts_base.specs.Name.{is_blank, begins_word, continues_word, is_word}
use Rattle.ts_base.specs.Moment.{all_digits}
use Rattle.ts_text.proofs.FrontLemmas.{IsFront, IsSign}
use Rattle.ts_text.specs.Phrase.{is_sign, plain_front}
use Rattle.ts_text.specs.declared.token.TokenKind.{TokenKind}
use Rattle.ts_text.specs.declared.token.TokenKind.TheVariants.{Word, Number, Sign}
use Rattle.ts_text.proofs.PlaceLemmas.{IsEnding}

-- a token's kind and length
pub token_is : (kind found : TokenKind) (m n : ℕ) → ◌≡◌ {A = Option (TokenKind × ℕ)} (Some (kind, m)) (Some (found, n)) → (kind ≡ found) × (m ≡ n)
token_is kind found m n is =
    let one : TokenKind × ℕ = (kind, m) in
    let other : TokenKind × ℕ = (found, n) in
    let pair : one ≡ other = cc in
    (ap (λ (p : TokenKind × ℕ). p.0) pair, ap (λ (p : TokenKind × ℕ). p.1) pair)

-- a run of bytes ends at the same byte
pub run_keeps : (p : ℕ → Bool) (v s other : List ℕ) (b : ℕ) → prefix_len p (v ++ b ∷ s) ≡ length v → prefix_len p (v ++ b ∷ other) ≡ length v
run_keeps p [] s other b is = elim (cases_Bool (p b)) [
  | inl t ↦ absurd (let no = rw t at is in omega (arith, no))
  | inr f ↦ rw f refl
]
run_keeps p (x ∷ v) s other b is = elim (cases_Bool (p x)) [
  | inl t ↦ let at = rw t at is in let more = run_keeps p v s other b (omega (arith, at)) in rw t (omega (arith, more))
  | inr f ↦ absurd (let no = rw f at is in omega (arith, no))
]

-- and before a byte that isn't one of it
pub run_stays : (p : ℕ → Bool) (v s other : List ℕ) (b : ℕ) → p b ≡ false → prefix_len p (v ++ s) ≡ length v → prefix_len p (v ++ b ∷ other) ≡ length v
run_stays p [] s other b ends is = rw ends refl
run_stays p (x ∷ v) s other b ends is = elim (cases_Bool (p x)) [
  | inl t ↦ let at = rw t at is in let more = run_stays p v s other b ends (omega (arith, at)) in rw t (omega (arith, more))
  | inr f ↦ absurd (let no = rw f at is in omega (arith, no))
]

pub blank_ends_word : (b : ℕ) → is_blank b ≡ true → continues_word b ≡ false
blank_ends_word b blank = grind (arith, nat_tests)

blank_ends_digits : (b : ℕ) → is_blank b ≡ true → is_ascii_digit b ≡ false
blank_ends_digits b blank = grind (arith, nat_tests)

-- what stands in front, by its first byte
data Fronts (b : ℕ) (bytes : List ℕ) (kind : TokenKind) (size : ℕ) : Type 0 where
  is_word_ : begins_word b ≡ true → Word ≡ kind → 1 + prefix_len continues_word bytes ≡ size → Fronts b bytes kind size
  is_number_ : begins_word b ≡ false → is_ascii_digit b ≡ true → Number ≡ kind → 1 + prefix_len is_ascii_digit bytes ≡ size → Fronts b bytes kind size
  is_sign_ : begins_word b ≡ false → is_ascii_digit b ≡ false → is_sign b ≡ true → Sign ≡ kind → 1 ≡ size → Fronts b bytes kind size

fronts : (b : ℕ) (bytes : List ℕ) (kind : TokenKind) (size : ℕ) → plain_front (b ∷ bytes) ≡ Some (kind, size) → Fronts b bytes kind size
unfolding plain_front
fronts b bytes kind size is = elim (cases_Bool (begins_word b)) [
  | inl t ↦ let at = token_is Word kind (1 + prefix_len continues_word bytes) size (rw t at is) in is_word_ t at.0 at.1
  | inr f1 ↦ elim (cases_Bool (is_ascii_digit b)) [
    | inl t ↦ let at = token_is Number kind (1 + prefix_len is_ascii_digit bytes) size (rw (f1, t) at is) in is_number_ f1 t at.0 at.1
    | inr f2 ↦ elim (cases_Bool (is_sign b)) [
      | inl t ↦ let at = token_is Sign kind 1 size (rw (f1, f2, t) at is) in is_sign_ f1 f2 t at.0 at.1
      | inr f3 ↦ absurd (let no = rw (f1, f2, f3) at is in cc)
    ]
  ]
]

nothing : (kind : TokenKind) (size : ℕ) → plain_front [] ≡ Some (kind, size) → ⊥
unfolding plain_front
nothing kind size is = absurd (cc)

-- where a token has these bytes it is the token in front
word_fronts : (b : ℕ) (bytes : List ℕ) (size : ℕ) → begins_word b ≡ true → 1 + prefix_len continues_word bytes ≡ size → plain_front (b ∷ bytes) ≡ Some (Word, size)
unfolding plain_front
word_fronts b bytes size t e = rw t (ap (λ (n : ℕ). Some (Word, n)) e)

digits_front : (b : ℕ) (bytes : List ℕ) (size : ℕ) → begins_word b ≡ false → is_ascii_digit b ≡ true → 1 + prefix_len is_ascii_digit bytes ≡ size → plain_front (b ∷ bytes) ≡ Some (Number, size)
unfolding plain_front
digits_front b bytes size f t e = rw (f, t) (ap (λ (n : ℕ). Some (Number, n)) e)

sign_front : (b : ℕ) (bytes : List ℕ) → begins_word b ≡ false → is_ascii_digit b ≡ false → is_sign b ≡ true → plain_front (b ∷ bytes) ≡ Some (Sign, 1)
unfolding plain_front
sign_front b bytes f1 f2 t = rw (f1, f2, t) refl

-- a token with other bytes behind it
again : (c : ℕ) (more rest there : List ℕ) (kind : TokenKind) → Fronts c (more ++ rest) kind (length (c ∷ more)) →
    ((p : ℕ → Bool) → ((b : ℕ) → is_blank b ≡ true → p b ≡ false) → prefix_len p (more ++ rest) ≡ length more → prefix_len p (more ++ there) ≡ length more) →
    plain_front (c ∷ (more ++ there)) ≡ Some (kind, length (c ∷ more))
again c more rest there kind (is_word_ t k e) goes =
    subst (λ (found : TokenKind). plain_front (c ∷ (more ++ there)) ≡ Some (found, length (c ∷ more))) k
    (word_fronts c (more ++ there) (length (c ∷ more)) t (let run = goes continues_word blank_ends_word (omega (arith, e)) in omega (arith, run)))
again c more rest there kind (is_number_ f t k e) goes =
    subst (λ (found : TokenKind). plain_front (c ∷ (more ++ there)) ≡ Some (found, length (c ∷ more))) k
    (digits_front c (more ++ there) (length (c ∷ more)) f t (let run = goes is_ascii_digit blank_ends_digits (omega (arith, e)) in omega (arith, run)))
again c more rest there kind (is_sign_ f1 f2 t k e) goes =
    subst (λ (found : TokenKind). plain_front (c ∷ (more ++ there)) ≡ Some (found, length (c ∷ more))) k
    (sign_front c (more ++ there) f1 f2 t ∙ ap (λ (n : ℕ). Some (Sign, n)) e)

some_is : (bytes : List ℕ) (kind : TokenKind) (size : ℕ) → plain_front bytes ≡ Some (kind, size) → (0 < size) × (size ≤ length bytes)
some_is [] kind size is = absurd (nothing kind size is)
some_is (b ∷ bytes) kind size is = by_front (fronts b bytes kind size is) where
  by_front : Fronts b bytes kind size → (0 < size) × (size ≤ length (b ∷ bytes))
  by_front (is_word_ t k e) = (omega (arith, e), omega (arith, e, prefix_len-le-length continues_word bytes))
  by_front (is_number_ f t k e) = (omega (arith, e), omega (arith, e, prefix_len-le-length is_ascii_digit bytes))
  by_front (is_sign_ f1 f2 t k e) = (omega (arith, e), omega (arith, e))

shows_is : (b : ℕ) (bytes : List ℕ) (token : TokenKind × ℕ) → plain_front (b ∷ bytes) ≡ Some token → is_blank b ≡ false
shows_is b bytes token is = by_front (fronts b bytes token.0 token.1 is) where
  by_front : Fronts b bytes token.0 token.1 → is_blank b ≡ false
  by_front (is_word_ t k e) = grind (arith, nat_tests)
  by_front (is_number_ f t k e) = grind (arith, nat_tests)
  by_front (is_sign_ f1 f2 t k e) = grind (arith, nat_tests)

-- what every grammar over these tokens stands on
pub plain_laws : IsFront plain_front
plain_laws = record {
  some = λ bytes kind size is. (some_is bytes kind size is).0;
  within = λ bytes kind size is. (some_is bytes kind size is).1;
  shows = λ b bytes token is. shows_is b bytes token is;
  keeps = λ c more rest other b kind token begins is. again c more (b ∷ rest) (b ∷ other) kind (fronts c (more ++ b ∷ rest) kind (length (c ∷ more)) is) (λ p blank e. run_keeps p more rest other b e);
  stays = λ c more rest other b kind blank is. again c more rest (b ∷ other) kind (fronts c (more ++ rest) kind (length (c ∷ more)) is) (λ p ends e. run_stays p more rest other b (ends b blank) e);
}

-- nothing ends a text
pub plain_ending : IsEnding plain_front []
unfolding plain_front
plain_ending = record { none = refl; shows = refl }

pub plain_sign : (sign : ℕ) → begins_word sign ≡ false → is_ascii_digit sign ≡ false → is_sign sign ≡ true → IsSign plain_front sign
plain_sign sign f1 f2 t bytes = sign_front sign bytes f1 f2 t

-- the bytes of one class at the front
run_all : (p : ℕ → Bool) (run rest : List ℕ) → list_all p run ≡ true → prefix_len p rest ≡ 0 → prefix_len p (run ++ rest) ≡ length run
run_all p [] rest all none = none
run_all p (b ∷ run) rest all none =
    let parts = and_parts (p b) (list_all p run) all in
    rw parts.0 (omega (arith, run_all p run rest parts.1 none))

-- a word stands in front where no byte behind it goes on
pub word_stands : (word rest : List ℕ) → is_word word ≡ true → prefix_len continues_word rest ≡ 0 → plain_front (word ++ rest) ≡ Some (Word, length word)
word_stands [] rest is none = absurd (cc)
word_stands (b ∷ word) rest is none =
    let parts = and_parts (begins_word b) (list_all continues_word word) is in
    word_fronts b (word ++ rest) (length (b ∷ word)) parts.0 (omega (arith, run_all continues_word word rest parts.1 none))

-- and so do digits
pub digits_stand : (digits rest : List ℕ) → all_digits digits ≡ true → 0 < length digits → prefix_len is_ascii_digit rest ≡ 0 → plain_front (digits ++ rest) ≡ Some (Number, length digits)
digits_stand [] rest is some none = absurd (omega arith)
digits_stand (b ∷ digits) rest is some none =
    let parts = and_parts (is_ascii_digit b) (list_all is_ascii_digit digits) is in
    digits_front b (digits ++ rest) (length (b ∷ digits)) (no_word b parts.0) parts.0 (omega (arith, run_all is_ascii_digit digits rest parts.1 none))
  where
    no_word : (b : ℕ) → is_ascii_digit b ≡ true → begins_word b ≡ false
    no_word b digit = grind (arith, nat_tests)

front_run : (p : ℕ → Bool) (bytes : List ℕ) → list_all p (take (prefix_len p bytes) bytes) ≡ true
front_run p [] = refl
front_run p (b ∷ bytes) = elim (cases_Bool (p b)) [
  | inl t ↦ let more : 1 + prefix_len p bytes ≡ suc (prefix_len p bytes) = omega arith in rw (t, more) (rw t (front_run p bytes))
  | inr f ↦ rw f refl
]

-- a number in front is digits
pub number_digits : (bytes : List ℕ) (size : ℕ) → plain_front bytes ≡ Some (Number, size) → all_digits (take size bytes) ≡ true
number_digits [] size is = absurd (nothing Number size is)
number_digits (b ∷ bytes) size is = by_front (fronts b bytes Number size is) where
  by_front : Fronts b bytes Number size → all_digits (take size (b ∷ bytes)) ≡ true
  by_front (is_word_ t k e) = absurd (cc)
  by_front (is_number_ f t k e) =
      let next : suc (prefix_len is_ascii_digit bytes) ≡ size = omega (arith, e) in
      rw (← next, t) (front_run is_ascii_digit bytes)
  by_front (is_sign_ f1 f2 t k e) = absurd (cc)
