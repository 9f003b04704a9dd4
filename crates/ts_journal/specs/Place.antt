-- Where the entry of a page stands in a batch.
use Rattle.std.specs.Prelude.{ℕ, zero, suc, Bool, false, ◌==◌, nat_lt, if◌then◌else◌, List, [], ◌∷◌}
use Rattle.ts_journal.specs.Journal.{Entry}

-- how many entries at the front have a lower number
abbrev pub place_of : ℕ → List Entry → ℕ
place_of number [] = 0
place_of number (e ∷ es) = if nat_lt e.0 number then suc (place_of number es) else 0

-- the entry at this place has this number
abbrev pub stands_at : ℕ → ℕ → List Entry → Bool
stands_at place number [] = false
stands_at zero number (e ∷ es) = e.0 == number
stands_at (suc place) number (e ∷ es) = stands_at place number es
