-- How many pages a series is charged for.
use Rattle.std.specs.Prelude.{ℕ, ◌+◌, ◌-◌, ◌*◌, ◌/◌, ◌<◌, ◌==◌, if◌then◌else◌, List, [], ◌∷◌, map}
use Rattle.std.specs.List.{list_any}
use Rattle.std.specs.Int.{div_ceil}
use Rattle.ts_space.specs.declared.place.Place.{Place}
use Rattle.ts_space.specs.Place.{count_of}

-- how many different numbers a list has
abbrev pub distinct_count : List ℕ → ℕ
distinct_count [] = 0
distinct_count (x ∷ xs) = (if list_any (λ y. y == x) xs then 0 else 1) + distinct_count xs

-- of a regular series whose elements stand at these offsets, where a page spans r of them: how many pages they fall on
abbrev pub regular_charge : ℕ → List ℕ → ℕ
regular_charge r offsets = distinct_count (map (λ offset. offset / r) offsets)

-- of an irregular series of n elements, where a page holds q: as many pages as could be needed if each two neighbours
-- hold more than q together
abbrev pub irregular_charge : ℕ → ℕ → ℕ
irregular_charge q n = if n == 0 then 0 else 2 * div_ceil n q - 1

-- the charge of an irregular series by its places
abbrev pub irregular_places_charge : ℕ → List Place → ℕ
irregular_places_charge q places = irregular_charge q (count_of places)

-- so many elements on neighbouring pages: none of the pages is empty, and two neighbours hold more than q together
abbrev pub IsChain : ℕ → List ℕ → Type 0
IsChain q [] = Unit {0}
IsChain q (c ∷ []) = 0 < c
IsChain q (c ∷ d ∷ counts) = (q < c + d) × IsChain q (d ∷ counts)
