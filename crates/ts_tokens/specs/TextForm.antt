-- The form of texts, as the law above the definition of where one ends.
use Rattle.std.specs.Prelude.{◌≡◌, ℕ, ◌==◌, ◌&&◌, ◌<◌, ◌≤◌, Bool, false, if◌then◌else◌, List, [], ◌∷◌, length, take}
use Rattle.ts_base.specs.Name.{is_text_byte}

-- Behind the quote that opens a text: bytes of a text, each quote among them doubled, and then the quote that closes
-- it.
abbrev pub closes : List ℕ → Bool
closes [] = false
closes (b ∷ []) = b == 39
closes (b ∷ c ∷ bytes) = if b == 39 then c == 39 && closes bytes else is_text_byte b && closes (c ∷ bytes)

-- no text ends later
abbrev pub ClosesNoLater : List ℕ → ℕ → Type 0
ClosesNoLater bytes end = (later : ℕ) → end < later → later ≤ length bytes → closes (take later bytes) ≡ false

-- no text ends anywhere
abbrev pub ClosesNowhere : List ℕ → Type 0
ClosesNowhere bytes = (end : ℕ) → end ≤ length bytes → closes (take end bytes) ≡ false
