-- What holds of what is kept in memory, whatever the pages hold.
use Rattle.std.specs.Prelude.{◌≡◌, ◌+◌, ◌-◌, ◌<◌, ◌≤◌, [], ◌++◌, ℕ, List, IsPermutation, Some, None, length, slice_set}
use Rattle.ts_space.specs.declared.place.Place.{Place}
use Rattle.ts_space.specs.Directory.{Directory, places_of}
use Rattle.ts_model.specs.declared.kind.Kind.TheVariants as kinds
use Rattle.ts_row.specs.Row.{Heading}
use Rattle.ts_page.specs.Pages.{first_element_page, most_element_pages, Contents}
use Rattle.ts_space.specs.Place.{pages_of}
use Rattle.ts_cells.specs.IrregularPage.{page_room}
use Rattle.ts_sheets.specs.Places as chain
use Rattle.ts_regular.specs.Places as regular
use Rattle.ts_offset.specs.Grid.{GridPlan}
use Rattle.ts_offset.specs.declared.shape.Shape.{Shape}
use Rattle.ts_offset.specs.declared.shape.Shape.TheVariants.{Irregular, Regular}
use Rattle.ts_model.specs.Definitions.{Definitions, ContainerDef, SeriesDef, series_slots, at_slot, with_slot}
use Rattle.ts_layout.specs.Meaning.{Layout, AreSound, IsSound, heading_at, shape_at, heading_of_container}
use Rattle.ts_layout.specs.Charges.{container_charge}
use Rattle.ts_layout.specs.Surveyed.{free_pages, ListsPlaces}
use Rattle.ts_layout.specs.Chains.{AreFilled, bare}
use Rattle.ts_layout.specs.Sheets.{room_of}
use Rattle.ts_layout.specs.Placed.{AreMoved, ArePlaced, AreKept}

-- the places and the free pages of a layout are apart and are all pages: what is kept of it keeps its rules
abbrev pub LayoutsAreKept : Type 0
LayoutsAreKept =
    (l : Layout) (space : Directory) (free : List ℕ) (count : ℕ) → IsSound l → AreFilled l → ListsPlaces space l
    → length space.lists ≡ series_slots → free ≡ free_pages l → count ≡ first_element_page + length l.element_pages
    → AreKept l.definitions space free count

-- what is kept stays kept with the same lists of places: memory that was taken plays no part
abbrev pub SameListsAreKept : Type 0
SameListsAreKept =
    (d d' : Definitions) (space space' : Directory) (free free' : List ℕ) (count count' : ℕ)
    → AreKept d space free count
    → d' ≡ d → space'.lists ≡ space.lists → free' ≡ free → count' ≡ count → AreKept d' space' free' count'

-- definitions that keep the rules are those of a layout without elements
pub record SoundDefinitionsHaveLayouts : Type 0 where
  pub rules : (pages : ℕ) (d : Definitions) → 1 ≤ pages → pages ≤ most_element_pages → AreSound pages d
      → IsSound (bare pages d)
  pub filled : (pages : ℕ) (d : Definitions) → AreFilled (bare pages d)
  pub size : (count : ℕ) (d : Definitions) → first_element_page ≤ count
      → count ≡ first_element_page + length (bare (count - first_element_page) d).element_pages

-- a series goes with its places, whose pages are free then
abbrev pub PlacesAreDropped : Type 0
PlacesAreDropped =
    (d : Definitions) (space space' : Directory) (free free' : List ℕ) (count slot : ℕ) → AreKept d space free count
    → slot < series_slots → space'.lists ≡ slice_set space.lists slot []
    → IsPermutation (free ++ pages_of (places_of slot space)) free'
    → AreKept (with_slot kinds.Series slot None d) space' free' count

-- what is kept keeps its rules where one series gets other places: its pages and the free ones are the same together,
-- and its quota is kept
pub record PlacesStayApart : Type 0 where
  pub irregular : (d : Definitions) (space : Directory) (c : Contents) (slot : ℕ) (h : Heading)
      → ArePlaced d space c.free c.count
      → slot < series_slots → heading_at d slot ≡ Some h → shape_at d slot ≡ Some Irregular
      → chain.ArePlaces h.columns c (places_of slot space)
  pub regular : (d : Definitions) (space : Directory) (c : Contents) (slot : ℕ) (h : Heading) (grid : GridPlan)
      → ArePlaced d space c.free c.count
      → slot < series_slots → heading_at d slot ≡ Some h → shape_at d slot ≡ Some (Regular grid)
      → regular.ArePlaces h.columns c (places_of slot space)
  pub moved : (d : Definitions) (space space' : Directory) (count slot : ℕ) (h : Heading) (shape : Shape)
      (new : List Place) (v w : Contents)
      → ArePlaced d space v.free count → slot < series_slots → heading_at d slot ≡ Some h → shape_at d slot ≡ Some shape
      → space'.lists ≡ slice_set space.lists slot new
      → AreMoved (room_of shape h.columns) (places_of slot space) new v w → ArePlaced d space' w.free count
  pub kept : (d : Definitions) (space space' : Directory) (count slot : ℕ) (s : SeriesDef) (c : ContainerDef)
      (h : Heading) (shape : Shape) (new : List Place) (v w : Contents)
      → AreKept d space v.free count → slot < series_slots → at_slot slot d.series ≡ Some s
      → at_slot s.container d.containers ≡ Some c
      → heading_of_container d c ≡ Some h → shape_at d slot ≡ Some shape → space'.lists ≡ slice_set space.lists slot new
      → AreMoved (room_of shape h.columns) (places_of slot space) new v w
      → container_charge d space' s.container (page_room h.columns) ≤ c.quota
      → AreKept d space' w.free count
