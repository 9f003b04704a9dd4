-- What is kept in memory of a volume: its definitions, the directory of its pages and its free pages.
use Rattle.std.specs.Prelude.{ℕ, suc, ◌<◌, ◌==◌, IsPermutation, if◌then◌else◌, List, [], ◌∷◌, ◌++◌}
use Rattle.ts_page.specs.Pages.{first_element_page}
use Rattle.ts_space.specs.declared.place.Place.{Place}
use Rattle.ts_space.specs.Place.{IsRising}
use Rattle.ts_layout.specs.Sheets.{place_of_sheet}
use Rattle.ts_space.specs.Directory.{Directory, places_of}
use Rattle.ts_model.specs.Definitions.{series_slots}
use Rattle.ts_layout.specs.Meaning.{ElementPage, Free, Cells, Layout}

-- the place of a page, if it has elements of the series in a slot
abbrev pub places_on : ℕ → ℕ → ElementPage → List Place
places_on slot number Free = []
places_on slot number (Cells s sheet) = if s == slot then place_of_sheet number sheet ∷ [] else []

-- the places of the series in a slot, page after page from page number `first` on
abbrev pub places_from : ℕ → ℕ → List ElementPage → List Place
places_from slot first [] = []
places_from slot first (e ∷ rest) = places_on slot first e ++ places_from slot (suc first) rest

-- the numbers of the free pages, from page number `first` on
abbrev pub free_from : ℕ → List ElementPage → List ℕ
free_from first [] = []
free_from first (Free ∷ rest) = first ∷ free_from (suc first) rest
free_from first (Cells s sheet ∷ rest) = free_from (suc first) rest

-- the places are exactly those of the pages of the series in a slot, rising in where they begin
pub record IsListOf (slot : ℕ) (places : List Place) (pages : List ElementPage) : Type 0 where
  pub rising : IsRising places
  pub all : IsPermutation places (places_from slot first_element_page pages)

-- the directory lists those of each series
abbrev pub ListsPlaces : Directory → Layout → Type 0
ListsPlaces space l = (slot : ℕ) → slot < series_slots → IsListOf slot (places_of slot space) l.element_pages

-- all free pages, the first one first
abbrev pub free_pages : Layout → List ℕ
free_pages l = free_from first_element_page l.element_pages
