-- Bytes as the tokens that they are, with blanks between them.
use Rattle.std.specs.Prelude.{◌≡◌, ℕ, ◌-◌, List, [], ◌∷◌, ◌++◌, length, Some, IsTrue, Result, Ok, Err}
use Rattle.std.specs.List.{flat_map}
use Rattle.ts_text.specs.Phrase.{unblanked, are_blanks, Front}
use Rattle.ts_text.specs.declared.token.TokenKind.{TokenKind}

-- a token, and the blanks in front of it
pub record Lexeme : Type 0 where
  pub blanks : List ℕ
  pub kind : TokenKind
  pub token : List ℕ

-- the bytes of tokens with their blanks
abbrev pub spelled : List Lexeme → List ℕ
spelled lexemes = flat_map (λ l. l.blanks ++ l.token) lexemes

-- each token is the one that stands in its place, in front of those behind it and these bytes
abbrev pub AreTokens : Front → List Lexeme → List ℕ → Type 0
AreTokens front [] rest = Unit {0}
AreTokens front (l ∷ lexemes) rest =
    IsTrue (are_blanks l.blanks) × (front (l.token ++ (spelled lexemes ++ rest)) ≡ Some (l.kind, length l.token))
    × AreTokens front lexemes rest

-- the bytes are these tokens with their blanks, and this rest
pub record Spells (front : Front) (bytes : List ℕ) (lexemes : List Lexeme) (rest : List ℕ) : Type 0 where
  pub whole : bytes ≡ spelled lexemes ++ rest
  pub tokens : AreTokens front lexemes rest

-- A text that is read is tokens with blanks between them, then blanks and what ends it. Where a text is refused, whole
-- tokens with their blanks stand before the place.
pub record AreItsTokens {A : Type 0} (front : Front) (ending : List ℕ) (reading : List ℕ → Result A ℕ) : Type 0 where
  pub read : (text : List ℕ) (found : A) → reading text ≡ Ok found →
      (lexemes : List Lexeme) × (rest : List ℕ) × Spells front text lexemes rest × (unblanked rest ≡ ending)
  pub before : (text : List ℕ) (place : ℕ) → reading text ≡ Err place →
      (lexemes : List Lexeme) × (rest : List ℕ) × Spells front text lexemes rest
      × (place ≡ length text - length (unblanked rest))
