-- Tokens with their blanks, one list after the other.
use Rattle.std.proofs.Common.{◌≡◌, ℕ, ◌≤◌, true, List, [], ◌∷◌, ◌++◌, length, take, drop, take-append-drop, Some, refl, sym, ◌∙◌, ap, subst, arith, append_assoc, length-append, inl, inr}
use Rattle.std.proofs.Math.Seq.{take-append_seam}
use Rattle.std.proofs.lemmas.Bool.{cases_Bool, and_parts}
use Rattle.std.proofs.lemmas.List.{append-nil, append_cancel_left, length-take}
use Rattle.std.proofs.lemmas.Grind.{flat_map-append}
use Rattle.ts_base.specs.Name.{is_blank}
use Rattle.ts_text.specs.Phrase.{unblanked, are_blanks, Front}
use Rattle.ts_text.proofs.FrontLemmas.{IsFront}
use Rattle.ts_text.specs.Spelling.{Lexeme, spelled, AreTokens, Spells}
use Rattle.ts_text.specs.declared.token.TokenKind.{TokenKind}

-- tokens with their blanks stand before the rest
pub record Takes (front : Front) (bytes rest : List ℕ) : Type 0 where
  pub lexemes : List Lexeme
  pub spells : Spells front bytes lexemes rest

-- something is taken, and then so many bytes stand there from the first that can't
pub record Stops (T : List ℕ → List ℕ → Type 0) (bytes : List ℕ) (left : ℕ) : Type 0 where
  pub rest : List ℕ
  pub takes : T bytes rest
  pub here : left ≡ length (unblanked rest)

-- no token
pub takes_none : (front : Front) (bytes : List ℕ) → Takes front bytes bytes
takes_none front bytes = record { lexemes = []; spells = record { whole = refl; tokens = tt } }

-- the tokens of two lists
spelled-append : (front_ones others : List Lexeme) → spelled (front_ones ++ others) ≡ spelled front_ones ++ spelled others
spelled-append front_ones others = flat_map-append (λ (l : Lexeme). l.blanks ++ l.token) front_ones others

-- the bytes of two lists, and then these
spelled_then : (front_ones others : List Lexeme) (middle rest : List ℕ) → middle ≡ spelled others ++ rest → spelled (front_ones ++ others) ++ rest ≡ spelled front_ones ++ middle
spelled_then front_ones others middle rest split =
    ap (λ (l : List ℕ). l ++ rest) (spelled-append front_ones others) ∙ append_assoc (spelled front_ones) (spelled others) rest ∙ ap (λ (l : List ℕ). spelled front_ones ++ l) (sym split)

-- tokens before tokens
tokens_then : (front : Front) (front_ones others : List Lexeme) (middle rest : List ℕ) → middle ≡ spelled others ++ rest → AreTokens front front_ones middle → AreTokens front others rest → AreTokens front (front_ones ++ others) rest
tokens_then front [] others middle rest split first next = next
tokens_then front (l ∷ front_ones) others middle rest split first next =
    (first.0, rw (spelled_then front_ones others middle rest split) first.1, tokens_then front front_ones others middle rest split first.2 next)

-- tokens, and then more
pub takes_on : (front : Front) (bytes middle rest : List ℕ) → Takes front bytes middle → Takes front middle rest → Takes front bytes rest
takes_on front bytes middle rest first next = record {
  lexemes = first.lexemes ++ next.lexemes;
  spells = record {
    whole = first.spells.whole ∙ sym (spelled_then first.lexemes next.lexemes middle rest next.spells.whole);
    tokens = tokens_then front first.lexemes next.lexemes middle rest next.spells.whole first.spells.tokens next.spells.tokens;
  };
}

-- no more bytes are left than there were
pub takes-le : (front : Front) (bytes rest : List ℕ) → Takes front bytes rest → length rest ≤ length bytes
takes-le front bytes rest takes = omega (arith, ap length takes.spells.whole, length-append (spelled takes.lexemes) rest)

pub unblanked-le : (bytes : List ℕ) → length (unblanked bytes) ≤ length bytes
unblanked-le [] = omega arith
unblanked-le (b ∷ bytes) = elim (cases_Bool (is_blank b)) [
  | inl t ↦ rw t (omega (arith, unblanked-le bytes))
  | inr f ↦ rw f (omega arith)
]

-- the blanks in front
pub record Blanked (bytes : List ℕ) : Type 0 where
  pub blanks : List ℕ
  pub all : are_blanks blanks ≡ true
  pub split : bytes ≡ blanks ++ unblanked bytes

pub blanked : (bytes : List ℕ) → Blanked bytes
blanked [] = record { blanks = []; all = refl; split = refl }
blanked (b ∷ bytes) = elim (cases_Bool (is_blank b)) [
  | inl t ↦
      let more = blanked bytes in
      record { blanks = b ∷ more.blanks; all = rw t more.all; split = rw t (ap (λ (l : List ℕ). b ∷ l) more.split) }
  | inr f ↦ record { blanks = []; all = refl; split = rw f refl }
]

-- blanks in front make no difference
pub unblanked_past : (blanks bytes : List ℕ) → are_blanks blanks ≡ true → unblanked (blanks ++ bytes) ≡ unblanked bytes
unblanked_past [] bytes all = refl
unblanked_past (b ∷ blanks) bytes all =
    let parts = and_parts (is_blank b) (are_blanks blanks) all in
    rw parts.0 (unblanked_past blanks bytes parts.1)

-- no blanks stand in front of a byte that shows
pub unblanked_shows : (bytes : List ℕ) (first : ℕ) (more : List ℕ) → unblanked bytes ≡ first ∷ more → is_blank first ≡ true → ⊥
unblanked_shows [] first more is blank = absurd (cc)
unblanked_shows (b ∷ bytes) first more is blank = elim (cases_Bool (is_blank b)) [
  | inl t ↦ unblanked_shows bytes first more (rw t at is) blank
  | inr f ↦
      let at : b ∷ bytes ≡ first ∷ more = rw f at is in
      let same : b ≡ first = cc in
      absurd (let no = rw same at f in cc)
]

pub unblanked_twice : (bytes : List ℕ) → unblanked (unblanked bytes) ≡ unblanked bytes
unblanked_twice [] = refl
unblanked_twice (b ∷ bytes) = elim (cases_Bool (is_blank b)) [
  | inl t ↦ rw t (unblanked_twice bytes)
  | inr f ↦ rw f (rw f refl)
]

-- one list split twice at the same place
pub split_same : (a b c d : List ℕ) → a ++ c ≡ b ++ d → length c ≡ length d → (a ≡ b) × (c ≡ d)
split_same a b c d whole sizes =
    let size : length a ≡ length b = omega (arith, sizes, ap length whole, length-append a c, length-append b d) in
    let fronts : a ≡ b = sym (take-append_seam a c) ∙ ap (take (length a)) whole ∙ ap (λ (n : ℕ). take n (b ++ d)) size ∙ take-append_seam b d in
    (fronts, append_cancel_left b c d (ap (λ (l : List ℕ). l ++ c) (sym fronts) ∙ whole))

-- all bytes before the first that isn't blank
pub blanks_before : (before here : List ℕ) → length (unblanked (before ++ here)) ≡ length here → (are_blanks before ≡ true) × (unblanked (before ++ here) ≡ here)
blanks_before before here size =
    let found = blanked (before ++ here) in
    let parts = split_same before found.blanks here (unblanked (before ++ here)) found.split (sym size) in
    (subst (λ (l : List ℕ). are_blanks l ≡ true) (sym parts.0) found.all, sym parts.1)

-- a token behind the blanks in front
pub takes_token : (front : Front) → IsFront front → (bytes : List ℕ) (kind : TokenKind) (n : ℕ) → front (unblanked bytes) ≡ Some (kind, n) → Takes front bytes (drop n (unblanked bytes))
takes_token front laws bytes kind n is =
    let here : List ℕ = unblanked bytes in
    let before = blanked bytes in
    let within : n ≤ length here = laws.within here kind n is in
    let size : length (take n here) ≡ n = omega (arith, length-take n here) in
    let whole : take n here ++ drop n here ≡ here = take-append-drop n here in
    record {
      lexemes = (record { blanks = before.blanks; kind = kind; token = take n here }) ∷ [];
      spells = record {
        whole = before.split ∙ ap (λ (l : List ℕ). before.blanks ++ l) (sym whole) ∙ sym (append_assoc before.blanks (take n here) (drop n here)) ∙ ap (λ (l : List ℕ). l ++ drop n here) (sym (append-nil (before.blanks ++ take n here)));
        tokens = (before.all, rw (whole, size) is, tt);
      };
    }
