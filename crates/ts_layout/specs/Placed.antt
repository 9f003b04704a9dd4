-- What is kept in memory of a volume, whatever its pages hold: definitions that keep their rules, places and free pages
-- that are all different and all there are, and charges by these places that keep the quotas.
use Rattle.std.specs.Prelude.{◌≡◌, ◌≢◌, ℕ, ◌+◌, ◌-◌, ◌<◌, ◌≤◌, Some, List, ◌++◌, length, All, AllPairs, IsPermutation}
use Rattle.std.specs.List.{flat_map}
use Rattle.ts_row.specs.Row.{Heading}
use Rattle.ts_page.specs.Pages.{first_element_page, most_element_pages, Contents, IsElementPage}
use Rattle.ts_space.specs.declared.place.Place.{Place}
use Rattle.ts_space.specs.Place.{IsRising, pages_of}
use Rattle.ts_space.specs.Directory.{Directory, places_of, used_of}
use Rattle.ts_model.specs.Definitions.{Definitions, series_slots}
use Rattle.ts_layout.specs.Meaning.{heading_at, shape_at, AreSound}
use Rattle.ts_layout.specs.Sheets.{room_of}
use Rattle.ts_offset.specs.declared.shape.Shape.{Shape}
use Rattle.ts_layout.specs.Charges.{KeepQuotas}

-- a place within the limits of the series in a slot: of an element page, with one element at least and no more than a
-- page has room for by the columns of the series and by where its elements can stand
pub record IsPlaceIn (d : Definitions) (count slot : ℕ) (p : Place) : Type 0 where
  pub element : IsElementPage p.page
  pub below : p.page < count
  pub some : 1 ≤ p.count
  pub heading : Heading
  pub shape : Shape
  pub columns : heading_at d slot ≡ Some heading
  pub lies : shape_at d slot ≡ Some shape
  pub room : p.count ≤ room_of shape heading.columns

-- a place has some elements, and no more than there is room for
pub record IsCounted (room : ℕ) (place : Place) : Type 0 where
  pub some : 1 ≤ place.count
  pub most : place.count ≤ room

-- On every volume: the pages of the places and the free ones are together the same ones before and after, the places
-- rise, and each has some elements and no more than there is room for.
pub record AreMoved (room : ℕ) (old new : List Place) (v w : Contents) : Type 0 where
  pub pages : IsPermutation (v.free ++ pages_of old) (w.free ++ pages_of new)
  pub rising : IsRising new
  pub counts : All (IsCounted room) new

-- a number of an element page, where there are so many pages in all
abbrev pub IsElementNumber : ℕ → ℕ → Type 0
IsElementNumber count number = IsElementPage number × (number < count)

-- the pages of all places, series after series
abbrev pub used_pages : Directory → List ℕ
used_pages space = flat_map pages_of space.lists

-- The places of each series rise and are within its limits. The free pages and those of all places are different ones,
-- and are all element pages together.
pub record ArePlaced (d : Definitions) (space : Directory) (free : List ℕ) (count : ℕ) : Type 0 where
  pub slots : length space.lists ≡ series_slots
  pub rising : (slot : ℕ) → slot < series_slots → IsRising (places_of slot space)
  pub places : (slot : ℕ) → slot < series_slots → All (IsPlaceIn d count slot) (places_of slot space)
  pub numbers : All (IsElementNumber count) free
  pub different : AllPairs (λ a b. a ≢ b) (free ++ used_pages space)
  pub all : length free + used_of space ≡ count - first_element_page

-- all that holds of what is kept, on every volume
pub record AreKept (d : Definitions) (space : Directory) (free : List ℕ) (count : ℕ) : Type 0 where
  pub some : first_element_page + 1 ≤ count
  pub most : count ≤ first_element_page + most_element_pages
  pub sound : AreSound (count - first_element_page) d
  pub placed : ArePlaced d space free count
  pub quotas : KeepQuotas d space
