-- The form of numbers, as the law above the definition of how long one is.
use Rattle.std.specs.Prelude.{◌≡◌, ℕ, ◌⊎◌, ◌≤◌, Bool, ◌&&◌, nat_le, List, ◌∷◌, ◌++◌, length, IsTrue}
use Rattle.std.specs.List.{list_all}
use Rattle.std.specs.Char.{is_ascii_digit}
use Rattle.ts_text.specs.Phrase.{digit_count}

-- digits, one at least
abbrev pub are_digits : List ℕ → Bool
are_digits text = nat_le 1 (length text) && list_all is_ascii_digit text

-- digits, a point, digits
pub record HasPoint (text : List ℕ) : Type 0 where
  pub whole : List ℕ
  pub fraction : List ℕ
  pub split : text ≡ whole ++ 46 ∷ fraction
  pub before : IsTrue (are_digits whole)
  pub behind : IsTrue (are_digits fraction)

-- digits, then nothing or a point and digits
abbrev pub IsMagnitude : List ℕ → Type 0
IsMagnitude text = IsTrue (are_digits text) ⊎ HasPoint text

-- a `-` and then a number without a sign
pub record HasSign (text : List ℕ) : Type 0 where
  pub magnitude : List ℕ
  pub split : text ≡ 45 ∷ magnitude
  pub form : IsMagnitude magnitude

-- a number: with a `-` or without, and at most 38 digits in all
abbrev pub IsNumber : List ℕ → Type 0
IsNumber text = (IsMagnitude text ⊎ HasSign text) × (digit_count text ≤ 38)
