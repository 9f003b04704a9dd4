-- The place at which a text is refused.
use Rattle.std.specs.Prelude.{◌≡◌, ◌⊎◌, ℕ, List, ◌∷◌, ◌++◌, take, drop, Some, Result, Ok, Err}
use Rattle.ts_text.specs.Phrase.{Front}
use Rattle.ts_text.specs.declared.token.TokenKind.{TokenKind}

-- one front, whatever stands before
abbrev pub everywhere : Front → List ℕ → Front → Type 0
everywhere front before other = other ≡ front

-- a front of their own behind some bytes, and one for all others
abbrev pub inside_or : (List ℕ → Type 0) → Front → Front → List ℕ → Front → Type 0
inside_or Inside inner outer before front = (Inside before × (front ≡ inner)) ⊎ ((Inside before → ⊥) × (front ≡ outer))

-- Where a grammar refuses a text, what stands before the place goes on, with a blank first, to a text of the grammar.
-- And with the token that stands at the place, in the front that is the one behind these bytes, nothing does: whatever
-- comes behind it that leaves it this token, the text is refused at this place. Nothing is said of bytes that begin no
-- token.
pub record RefusesInPlace {A : Type 0} (fronts : List ℕ → Front → Type 0) (reading : List ℕ → Result A ℕ) : Type 0 where
  pub goes_on : (text : List ℕ) (place : ℕ) → reading text ≡ Err place →
      (more : List ℕ) × (found : A) × (reading (take place text ++ 32 ∷ more) ≡ Ok found)
  pub ends : (text more : List ℕ) (place size : ℕ) (kind : TokenKind) (front : Front) → reading text ≡ Err place
      → fronts (take place text) front →
      front (drop place text) ≡ Some (kind, size) → front (take size (drop place text) ++ more) ≡ Some (kind, size) →
      reading (take place text ++ (take size (drop place text) ++ more)) ≡ Err place
