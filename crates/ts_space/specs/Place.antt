-- The places of one series: the pages that hold its elements, rising in where they begin.
use Rattle.std.specs.Prelude.{ℕ, suc, ◌%◌, ◌^◌, ℤ, ◌<ℤ◌, Bool, not, int_lt, Option, is_some, Result, Ok, Err}
use Rattle.std.specs.Prelude.{if◌then◌else◌, List, [], ◌∷◌, ◌++◌, filter, find, length, map, sum_by}
use Rattle.std.specs.Ordering.{int_eq}
use Rattle.ts_space.specs.declared.place.Place.{Place}

-- the place begins below this
abbrev pub begins_below : ℤ → Place → Bool
begins_below at place = int_lt place.at at

-- the place begins above this
abbrev pub begins_above : ℤ → Place → Bool
begins_above at place = int_lt at place.at

-- the place begins just there
abbrev pub begins_at : ℤ → Place → Bool
begins_at at place = int_eq place.at at

-- each place begins above this
abbrev pub AreAbove : ℤ → List Place → Type 0
AreAbove at [] = Unit {0}
AreAbove at (p ∷ ps) = (at <ℤ p.at) × AreAbove at ps

-- each place begins below this
abbrev pub AreBelow : ℤ → List Place → Type 0
AreBelow at [] = Unit {0}
AreBelow at (p ∷ ps) = (p.at <ℤ at) × AreBelow at ps

-- each place begins below all later ones
abbrev pub IsRising : List Place → Type 0
IsRising [] = Unit {0}
IsRising (p ∷ ps) = AreAbove p.at ps × IsRising ps

-- the place that begins there, if any does
abbrev pub place_at : ℤ → List Place → Option Place
place_at at = find (begins_at at)

-- how many places at the front begin below this
abbrev pub rank_of : ℤ → List Place → ℕ
rank_of at [] = 0
rank_of at (p ∷ ps) = if begins_below at p then suc (rank_of at ps) else 0

-- the index of the place that begins there; where none does, that of the first place above
abbrev pub search_of : ℤ → List Place → Result ℕ ℕ
search_of at places = if is_some (place_at at places) then Ok (rank_of at places) else Err (rank_of at places)

-- the places below this one, this one, and the places above it: one that began there is gone
abbrev pub put_place : Place → List Place → List Place
put_place place places = filter (begins_below place.at) places ++ place ∷ filter (begins_above place.at) places

-- all places but the one that begins there
abbrev pub drop_place : ℤ → List Place → List Place
drop_place at = filter (λ place. not (begins_at at place))

-- how many elements the pages of these places hold together
abbrev pub count_of : List Place → ℕ
count_of = sum_by (λ place. place.count)

-- the same, as a counter of 64 bits has it
abbrev pub kept_count : List Place → ℕ
kept_count places = count_of places % 2 ^ 64

-- the numbers of the pages
abbrev pub pages_of : List Place → List ℕ
pages_of places = map (λ place. place.page) places

-- the place of a page with these elements, each a stamp and something more: its first stamp, its number and how many it
-- has; none where it has none
abbrev pub place_of : {A : Type 0} → ℕ → List (ℤ × A) → List Place
place_of number [] = []
place_of number (e ∷ es) = record { at = e.0; page = number; count = length (e ∷ es) } ∷ []
