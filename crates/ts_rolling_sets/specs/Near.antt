-- The newest of a set's windows, and the one of a put.
use Rattle.std.specs.Prelude.{ℕ, Bool, if◌then◌else◌, Option, Some, None, List, [], ◌∷◌}
use Rattle.ts_rolling.specs.Sets.{window_key, greatest}

-- the greatest of windows, if there are any
abbrev pub newest : List ℕ → Option ℕ
newest [] = None
newest (k ∷ ks) = Some (greatest (k ∷ ks))

-- the key of a window that is there
abbrev pub key_if : List ℕ → ℕ → Bool → Option (List ℕ)
key_if set window there = if there then Some (window_key set window) else None
