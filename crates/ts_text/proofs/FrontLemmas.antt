-- What the proofs ask of a front.
use Rattle.std.proofs.Common.{◌≡◌, ℕ, ◌<◌, ◌≤◌, true, false, List, ◌∷◌, ◌++◌, length, Some}
use Rattle.ts_base.specs.Name.{is_blank}
use Rattle.ts_text.specs.Phrase.{Front}
use Rattle.ts_text.specs.declared.token.TokenKind.{TokenKind}
use Rattle.ts_text.specs.declared.token.TokenKind.TheVariants.{Sign}

-- A token has a byte, ends within the bytes and begins with no blank. It ends at the same place where the byte behind it is
-- the same and begins a token, and where a blank comes there.
pub record IsFront (front : Front) : Type 0 where
  pub some : (bytes : List ℕ) (kind : TokenKind) (size : ℕ) → front bytes ≡ Some (kind, size) → 0 < size
  pub within : (bytes : List ℕ) (kind : TokenKind) (size : ℕ) → front bytes ≡ Some (kind, size) → size ≤ length bytes
  pub shows : (b : ℕ) (bytes : List ℕ) (token : TokenKind × ℕ) → front (b ∷ bytes) ≡ Some token → is_blank b ≡ false
  pub keeps : (c : ℕ) (more rest other : List ℕ) (b : ℕ) (kind : TokenKind) (token : TokenKind × ℕ) → front (b ∷ rest) ≡ Some token →
      front (c ∷ (more ++ b ∷ rest)) ≡ Some (kind, length (c ∷ more)) → front (c ∷ (more ++ b ∷ other)) ≡ Some (kind, length (c ∷ more))
  pub stays : (c : ℕ) (more rest other : List ℕ) (b : ℕ) (kind : TokenKind) → is_blank b ≡ true →
      front (c ∷ (more ++ rest)) ≡ Some (kind, length (c ∷ more)) → front (c ∷ (more ++ b ∷ other)) ≡ Some (kind, length (c ∷ more))

-- the byte is a token by itself, whatever stands behind it
abbrev pub IsSign : Front → ℕ → Type 0
IsSign front sign = (bytes : List ℕ) → front (sign ∷ bytes) ≡ Some (Sign, 1)
