-- The picks of a seed: numbers that are drawn from it, without their last three digits.
use Rattle.std.specs.Prelude.{ℕ, zero, suc, ◌+◌, ◌*◌, ◌/◌, ◌%◌, List, [], ◌∷◌, ◌++◌}

-- number i of the numbers that are drawn from a seed, each from the one before it
unfoldable pub drawn : ℕ → ℕ → ℕ
drawn seed zero = seed % 2_147_483_648
drawn seed (suc i) = (1_103_515_245 * drawn seed i + 12_345) % 2_147_483_648

-- the first so many picks of a seed: pick j, counted from 1, is number j without its last three digits
unfoldable pub picks_of : ℕ → ℕ → List ℕ
picks_of seed zero = []
picks_of seed (suc count) = picks_of seed count ++ (drawn seed (suc count) / 1000) ∷ []
