-- A sum, and of how many values.
use Rattle.std.specs.Prelude.{ℕ, ◌*◌, ◌^◌, ◌≤◌, ℤ, unsigned_abs}

-- a tally takes at most so many values
abbrev pub most_values : ℕ
most_values = 2 ^ 32

-- how many values there were, and their sum
pub record Sums : Type 0 where
  pub count : ℕ
  pub sum : ℤ

-- each value has at most 28 digits
abbrev pub AreSmall : Sums → Type 0
AreSmall s = unsigned_abs s.sum ≤ s.count * 10 ^ 28
