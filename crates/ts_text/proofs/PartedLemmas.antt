-- Texts as tokens with blanks between them, and what is read of them.
use Rattle.std.proofs.Common.{◌≡◌, ℕ, ◌≤◌, Bool, true, false, List, [], ◌∷◌, ◌++◌, length, take, drop, take-append-drop, Option, Some, None, Result, Ok, Err, refl, sym, ◌∙◌, ap, subst, arith, append_assoc, inl, inr}
use Rattle.std.proofs.lemmas.Bool.{and_parts, cases_Bool}
use Rattle.std.proofs.lemmas.Slice.Eq.{bytes_eq-Decides}
use Rattle.std.specs.Str.{bytes_eq}
use Rattle.std.proofs.lemmas.Bool.Decides.{nat_tests}
use Rattle.std.proofs.lemmas.List.{length-take, append-nil, append_cancel_right}
use Rattle.std.specs.List.{prefix_len}
use Rattle.std.specs.Char.{is_ascii_digit}
use Rattle.ts_base.specs.Name.{is_blank, is_word, continues_word}
use Rattle.ts_text.specs.Phrase.{unblanked, are_blanks, Front, Read, Phrase, go_on, taken, taken_front, token, word_in, a_sign, the_end, plain_front, a_word}
use Rattle.ts_text.proofs.FrontLemmas.{IsFront}
use Rattle.ts_text.specs.Parted.{IsParted}
use Rattle.ts_text.specs.declared.token.TokenKind.{TokenKind}
use Rattle.ts_text.proofs.SpellingLemmas.{blanked, unblanked_past}
use Rattle.ts_text.proofs.TokenLemmas.{token_at}
use Rattle.ts_text.proofs.SignLemmas.{sign_is, sign_at}
use Rattle.ts_text.proofs.PlaceLemmas.{end_at, end_is}
use Rattle.ts_text.specs.declared.token.TokenKind.TheVariants.{Word, Number, Text, Sign}
use Rattle.ts_text.proofs.PlainLemmas.{plain_laws, word_stands, blank_ends_word}

-- one phrase after another that is read
pub bind-ok : {A B : Type 0} (read : Read A) (next : A → Phrase B) (y : B × List ℕ) → go_on read next ≡ Ok y → (x : A × List ℕ) × (read ≡ Ok x) × (next x.0 x.1 ≡ Ok y)
bind-ok (Ok x) next y is = (x, refl, is)
bind-ok (Err left) next y is = absurd (cc)

-- what was read
abbrev pub read_as : {A : Type 0} → A → Result A ℕ
read_as x = Ok x

pub same-read : {A : Type 0} (x y : A) → read_as x ≡ read_as y → x ≡ y
same-read x y h = cc

-- the parts of a pair that was read
pub pair-parts : {A B : Type 0} (a c : A) (b d : B) → read_as {A = A × B} (a, b) ≡ read_as (c, d) → (a ≡ c) × (b ≡ d)
pair-parts {A = A} {B = B} a c b d h =
    let x : A × B = (a, b) in
    let y : A × B = (c, d) in
    let same : x ≡ y = same-read x y h in
    (ap (λ p. p.0) same, ap (λ p. p.1) same)

pub are_blanks-append : (a b : List ℕ) → are_blanks a ≡ true → are_blanks b ≡ true → are_blanks (a ++ b) ≡ true
are_blanks-append [] b ha hb = hb
are_blanks-append (x ∷ a) b ha hb =
    let parts = and_parts (is_blank x) (are_blanks a) ha in
    rw parts.0 (are_blanks-append a b parts.1 hb)

-- blanks in front of tokens
pub parted-blanks : (blanks text : List ℕ) (tokens : List (List ℕ)) → are_blanks blanks ≡ true → IsParted tokens text → IsParted tokens (blanks ++ text)
parted-blanks blanks text [] h p = are_blanks-append blanks text h p
parted-blanks blanks text (token ∷ tokens) h p =
    (blanks ++ p.0, p.1, are_blanks-append blanks p.0 h p.2, ap (λ t. blanks ++ t) p.3 ∙ sym (append_assoc blanks p.0 (token ++ p.1)), p.4)

-- a token behind the blanks of a text
pub parted-token : (text token rest : List ℕ) (tokens : List (List ℕ)) → unblanked text ≡ token ++ rest → IsParted tokens rest → IsParted (token ∷ tokens) text
parted-token text token rest tokens e p =
    let split = blanked text in
    (split.blanks, rest, split.all, split.split ∙ ap (λ t. split.blanks ++ t) e, p)

-- a token that was read
pub record Found {A : Type 0} (front : Front) (accept : TokenKind → List ℕ → Option A) (bytes rest : List ℕ) (found : A) : Type 0 where
  pub kind : TokenKind
  pub text : List ℕ
  pub accepted : accept kind text ≡ Some found
  pub whole : unblanked bytes ≡ text ++ rest
  pub stands : front (text ++ rest) ≡ Some (kind, length text)

pub token-found : {A : Type 0} (front : Front) → IsFront front → (accept : TokenKind → List ℕ → Option A) (bytes rest : List ℕ) (found : A) → token front accept bytes ≡ Ok (found, rest) → Found front accept bytes rest found
token-found {A} front laws accept bytes rest found is = by_front (front (unblanked bytes)) refl is where
  here : List ℕ
  here = unblanked bytes

  by_taken : (kind : TokenKind) (size : ℕ) → front here ≡ Some (kind, size) → (taken_as : Option A) → accept kind (take size here) ≡ taken_as → taken here size taken_as ≡ Ok (found, rest) → Found front accept bytes rest found
  by_taken kind size at None e is = absurd (cc)
  by_taken kind size at (Some a) e is =
      let same = pair-parts a found (drop size here) rest is in
      let within : size ≤ length here = laws.within here kind size at in
      let whole : here ≡ take size here ++ rest = sym (take-append-drop size here) ∙ ap (λ (l : List ℕ). take size here ++ l) same.1 in
      let length_is : length (take size here) ≡ size = omega (arith, length-take size here) in
      record {
        kind = kind;
        text = take size here;
        accepted = e ∙ ap Some same.0;
        whole = whole;
        stands = ap front (sym whole) ∙ at ∙ ap (λ (n : ℕ). Some (kind, n)) (sym length_is);
      }

  by_front : (front_is : Option (TokenKind × ℕ)) → front here ≡ front_is → taken_front accept here (front here) ≡ Ok (found, rest) → Found front accept bytes rest found
  by_front None e is = absurd (let no = rw e at is in cc)
  by_front (Some t) e is = by_taken t.0 t.1 e (accept t.0 (take t.1 here)) refl (rw e at is)

-- a token that is read
pub token-read : {A : Type 0} (front : Front) → IsFront front → (accept : TokenKind → List ℕ → Option A) (bytes text : List ℕ) (tokens : List (List ℕ)) (kind : TokenKind) (found : A) → (p : IsParted (text ∷ tokens) bytes) → front (text ++ p.1) ≡ Some (kind, length text) → accept kind text ≡ Some found → token front accept bytes ≡ Ok (found, p.1)
token-read front laws accept bytes text tokens kind found p stands as_this = ap (token front accept) p.3 ∙ token_at front laws accept p.0 text p.1 kind found p.2 stands as_this

-- a sign that was read
pub sign-found : (sign : ℕ) (bytes rest : List ℕ) (tokens : List (List ℕ)) → a_sign sign bytes ≡ Ok (tt, rest) → IsParted tokens rest → IsParted ((sign ∷ []) ∷ tokens) bytes
sign-found sign bytes rest tokens is p = parted-token bytes (sign ∷ []) rest tokens (sign_is sign bytes rest is) p

-- a sign stands behind the blanks
pub sign-first : (sign : ℕ) (bytes : List ℕ) (tokens : List (List ℕ)) → is_blank sign ≡ false → (p : IsParted ((sign ∷ []) ∷ tokens) bytes) → unblanked bytes ≡ sign ∷ p.1
sign-first sign bytes tokens shows p = ap unblanked p.3 ∙ unblanked_past p.0 (sign ∷ p.1) p.2 ∙ rw shows refl

-- a sign that is read
pub sign-read : (sign : ℕ) (bytes : List ℕ) (tokens : List (List ℕ)) → is_blank sign ≡ false → (p : IsParted ((sign ∷ []) ∷ tokens) bytes) → a_sign sign bytes ≡ Ok (tt, p.1)
sign-read sign bytes tokens shows p = sign_at sign bytes p.1 (sign-first sign bytes tokens shows p)

-- the end
pub unblanked-end : (text : List ℕ) → are_blanks text ≡ true → unblanked text ≡ []
unblanked-end [] h = refl
unblanked-end (b ∷ text) h =
    let parts = and_parts (is_blank b) (are_blanks text) h in
    rw parts.0 (unblanked-end text parts.1)

pub end-blanks : (text : List ℕ) → unblanked text ≡ [] → are_blanks text ≡ true
end-blanks text h = let split = blanked text in subst (λ (l : List ℕ). are_blanks l ≡ true) (sym (split.split ∙ ap (λ (l : List ℕ). split.blanks ++ l) h ∙ nothing split.blanks)) split.all where
  nothing : (l : List ℕ) → l ++ [] ≡ l
  nothing [] = refl
  nothing (b ∷ l) = ap (λ (m : List ℕ). b ∷ m) (nothing l)

-- what comes behind a word or digits ends them
pub record EndsRun (f : ℕ → Bool) : Type 0 where
  pub blank : (b : ℕ) → is_blank b ≡ true → f b ≡ false

front-none : (f : ℕ → Bool) (b : ℕ) (text : List ℕ) → f b ≡ false → prefix_len f (b ∷ text) ≡ 0
front-none f b text h = rw h refl

pub ends-token : (f : ℕ → Bool) (c : ℕ) (token text : List ℕ) (tokens : List (List ℕ)) → EndsRun f → f c ≡ false → IsParted ((c ∷ token) ∷ tokens) text → prefix_len f text ≡ 0
ends-token f c token text tokens ends h p = ap (prefix_len f) p.3 ∙ go p.0 p.2 where
  go : (blanks : List ℕ) → are_blanks blanks ≡ true → prefix_len f (blanks ++ ((c ∷ token) ++ p.1)) ≡ 0
  go [] b = front-none f c (token ++ p.1) h
  go (x ∷ blanks) b = front-none f x (blanks ++ ((c ∷ token) ++ p.1)) (ends.blank x (and_parts (is_blank x) (are_blanks blanks) b).0)

pub ends-end : (f : ℕ → Bool) (text : List ℕ) → EndsRun f → IsParted [] text → prefix_len f text ≡ 0
ends-end f [] ends p = refl
ends-end f (b ∷ text) ends p = front-none f b text (ends.blank b (and_parts (is_blank b) (are_blanks text) p).0)

pub word-ends : EndsRun continues_word
word-ends = record { blank = λ b h. blank_ends_word b h }

pub digits-end : EndsRun is_ascii_digit
digits-end = record { blank = λ b h. no_blank b h } where
  no_blank : (b : ℕ) → is_blank b ≡ true → is_ascii_digit b ≡ false
  no_blank b h = grind (arith, nat_tests)

-- no word goes on with the next token
abbrev pub StopsWord : List (List ℕ) → Type 0
StopsWord [] = Unit {0}
StopsWord ([] ∷ tokens) = ⊥
StopsWord ((c ∷ token) ∷ tokens) = continues_word c ≡ false

pub stops-word : (tokens : List (List ℕ)) (text : List ℕ) → StopsWord tokens → IsParted tokens text → prefix_len continues_word text ≡ 0
stops-word [] text h p = ends-end continues_word text word-ends p
stops-word ([] ∷ tokens) text h p = absurd h
stops-word ((c ∷ token) ∷ tokens) text h p = ends-token continues_word c token text tokens word-ends h p

-- a token right here
pub parted-here : (token rest : List ℕ) (tokens : List (List ℕ)) → IsParted tokens rest → IsParted (token ∷ tokens) (token ++ rest)
parted-here token rest tokens p = ([], rest, refl, refl, p)

-- a space in front
pub parted-space : (text : List ℕ) (tokens : List (List ℕ)) → IsParted tokens text → IsParted tokens (32 ∷ text)
parted-space text tokens p = parted-blanks (32 ∷ []) text tokens refl p

-- nothing ends a text
pub end-found : (text : List ℕ) (found : Unit {0} × List ℕ) → the_end [] text ≡ Ok found → IsParted [] text
end-found text found is = end-blanks text (end_is [] text found is)

pub end-read : (text : List ℕ) → IsParted [] text → the_end [] text ≡ Ok (tt, [])
end-read text p = end_at [] text (unblanked-end text p)

-- no blank
abbrev pub IsSolid : List ℕ → Type 0
IsSolid [] = ⊥
IsSolid (b ∷ token) = is_blank b ≡ false

unblanked-token : (token rest : List ℕ) → IsSolid token → unblanked (token ++ rest) ≡ token ++ rest
unblanked-token [] rest h = absurd h
unblanked-token (b ∷ token) rest h = rw h refl

-- the first token of a text
pub token-first : (text token : List ℕ) (tokens : List (List ℕ)) → IsSolid token → (p : IsParted (token ∷ tokens) text) → unblanked text ≡ token ++ p.1
token-first text token tokens h p =
    ap unblanked p.3 ∙ unblanked_past p.0 (token ++ p.1) p.2 ∙ unblanked-token token p.1 h

-- a certain word
accepted-word : (word : List ℕ) (kind : TokenKind) (text : List ℕ) → word_in word kind text ≡ Some tt → text ≡ word
accepted-word word Word text is = elim (cases_Bool (bytes_eq text word)) [
  | inl t ↦ (bytes_eq-Decides text word).0 t
  | inr f ↦ absurd (let no = rw f at is in cc)
]
accepted-word word Number text is = absurd (cc)
accepted-word word Text text is = absurd (cc)
accepted-word word Sign text is = absurd (cc)

pub word-found : (word bytes rest : List ℕ) (tokens : List (List ℕ)) → a_word word bytes ≡ Ok (tt, rest) → IsParted tokens rest → IsParted (word ∷ tokens) bytes
unfolding a_word
word-found word bytes rest tokens is p =
    let found = token-found plain_front plain_laws (word_in word) bytes rest tt is in
    subst (λ (l : List ℕ). IsParted (l ∷ tokens) bytes) (accepted-word word found.kind found.text found.accepted) (parted-token bytes found.text rest tokens found.whole p)

pub word-read : (word bytes : List ℕ) (tokens : List (List ℕ)) → is_word word ≡ true → (p : IsParted (word ∷ tokens) bytes) → prefix_len continues_word p.1 ≡ 0 → a_word word bytes ≡ Ok (tt, p.1)
unfolding a_word
word-read word bytes tokens h p none =
    let same : bytes_eq word word ≡ true = (bytes_eq-Decides word word).1 refl in
    let accepted : word_in word Word word ≡ Some tt = rw same refl in
    token-read plain_front plain_laws (word_in word) bytes word tokens Word tt p (word_stands word p.1 h none) accepted

-- bytes that are these tokens with blanks before each, whatever tokens come behind them
abbrev pub StandsBefore : List (List ℕ) → List ℕ → Type 0
StandsBefore tokens used = (more : List (List ℕ)) (rest : List ℕ) → IsParted more rest → IsParted (tokens ++ more) (used ++ rest)

pub before-then : (first next : List (List ℕ)) (used middle : List ℕ) → StandsBefore first used → StandsBefore next middle → StandsBefore (first ++ next) (used ++ middle)
before-then first next used middle one two = λ more rest p.
    let far = one (next ++ more) (middle ++ rest) (two more rest p) in
    subst (λ (t : List (List ℕ)). IsParted t ((used ++ middle) ++ rest)) (sym (append_assoc first next more))
    (subst (λ (l : List ℕ). IsParted (first ++ (next ++ more)) l) (sym (append_assoc used middle rest)) far)

-- one token behind the blanks of a text, up to the rest
pub before-token : (text token used rest : List ℕ) → text ≡ used ++ rest → unblanked text ≡ token ++ rest → StandsBefore (token ∷ []) used
before-token text token used rest whole here = λ more other p.
    let split = blanked text in
    let is : used ≡ split.blanks ++ token = append_cancel_right used (split.blanks ++ token) rest (sym whole ∙ split.split ∙ ap (λ (l : List ℕ). split.blanks ++ l) here ∙ sym (append_assoc split.blanks token rest)) in
    subst (λ (l : List ℕ). IsParted (token ∷ more) (l ++ other)) (sym is) (split.blanks, other, split.all, append_assoc split.blanks token other, p)

pub before-sign : (sign : ℕ) (used rest : List ℕ) → a_sign sign (used ++ rest) ≡ Ok (tt, rest) → StandsBefore ((sign ∷ []) ∷ []) used
before-sign sign used rest is = before-token (used ++ rest) (sign ∷ []) used rest refl (sign_is sign (used ++ rest) rest is)

pub before-word : (word used rest : List ℕ) → a_word word (used ++ rest) ≡ Ok (tt, rest) → StandsBefore (word ∷ []) used
unfolding a_word
before-word word used rest is =
    let found = token-found plain_front plain_laws (word_in word) (used ++ rest) rest tt is in
    before-token (used ++ rest) word used rest refl (found.whole ∙ ap (λ (l : List ℕ). l ++ rest) (accepted-word word found.kind found.text found.accepted))

-- tokens, and all the rest as one more
pub parted-rest : (tokens : List (List ℕ)) (before here : List ℕ) → IsParted tokens before → unblanked here ≡ here → IsParted (tokens ++ here ∷ []) (before ++ here)
parted-rest [] before here p shows = (before, [], p, ap (λ (l : List ℕ). before ++ l) (sym (append-nil here)), refl)
parted-rest (token ∷ tokens) before here p shows =
    let more = parted-rest tokens p.1 here p.4 shows in
    (p.0, p.1 ++ here, p.2, ap (λ (l : List ℕ). l ++ here) p.3 ∙ append_assoc p.0 (token ++ p.1) here ∙ ap (λ (l : List ℕ). p.0 ++ l) (append_assoc token p.1 here), more)
