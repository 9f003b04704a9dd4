-- The directory: for each series, by its slot, the list of its places.
use Rattle.std.specs.Prelude.{◌≡◌, ℕ, ◌+◌, ◌-◌, ◌≤◌, List, [], ◌++◌, length, map, replicate, slice_index}
use Rattle.std.specs.Prelude.{slice_index_or, slice_set, All, sum_by}
use Rattle.ts_space.specs.declared.place.Place.{Place}
use Rattle.ts_space.specs.Place.{IsRising, kept_count}

-- what contracts see of a space: the places of each series, and how many more its list takes without memory
pub record Directory : Type 0 where
  pub lists : List (List Place)
  pub spares : List ℕ

-- the places of one series
abbrev pub places_of : ℕ → Directory → List Place
places_of series space = slice_index_or space.lists series []

-- how many places more its list takes without memory
abbrev pub spare_of : ℕ → Directory → ℕ
spare_of series space = slice_index space.spares series

-- how many places its list takes in all without memory
abbrev pub capacity_of : ℕ → Directory → ℕ
capacity_of series space = length (places_of series space) + spare_of series space

-- how many places all series have together
abbrev pub used_of : Directory → ℕ
used_of space = sum_by length space.lists

-- the same for all of the 4096 slots, of which the first have these and the others one thing
abbrev pub padded : {A : Type 0} → A → List A → List A
padded a items = items ++ replicate (4096 - length items) a

-- the lists of the first of the 4096 slots, each rising, with how many elements each has and how many places all have
pub record IsDirectory (lists : List (List Place)) (counts : List ℕ) (total : ℕ) : Type 0 where
  pub slots : length lists ≤ 4096
  pub rising : All IsRising lists
  pub counts_are : counts ≡ map kept_count lists
  pub used : total ≡ sum_by length lists

-- such lists, with room for those of all slots and for their counts
pub record IsRoomy (lists : List (List Place)) (counts : List ℕ) (total room more : ℕ) : Type 0 where
  pub directory : IsDirectory lists counts total
  pub lists_room : 4096 ≤ room
  pub counts_room : 4096 ≤ more

-- the list of no other series changes, nor its memory; and the number of all places as that of the one list
pub record ChangesOnly (series : ℕ) (old new : Directory) : Type 0 where
  pub lists : new.lists ≡ slice_set old.lists series (places_of series new)
  pub spares : new.spares ≡ slice_set old.spares series (spare_of series new)
  pub used : used_of new + length (places_of series old) ≡ used_of old + length (places_of series new)

-- so many lists came behind those that there were, without places and without memory, and their counts
pub record HasGrown (n : ℕ) (old new : List (List Place)) (spares spares_new counts counts_new : List ℕ) : Type 0 where
  pub lists_come : new ≡ old ++ replicate n []
  pub spares_come : spares_new ≡ spares ++ replicate n 0
  pub counts_come : counts_new ≡ counts ++ replicate n 0
