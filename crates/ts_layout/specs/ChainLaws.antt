-- What holds of the pages of a series, of a series that gets other pages, and of one that is dropped with its pages.
use Rattle.std.specs.Prelude.{◌≡◌, ◌<◌, [], ◌++◌, ℕ, ℤ, List, IsPermutation, Some, None, length, slice_set}
use Rattle.std.specs.FinMap.{get, insert, remove, entries, len}
use Rattle.ts_model.specs.Catalogue.{without}
use Rattle.ts_row.specs.Row.{Heading, Row}
use Rattle.ts_row.specs.declared.kind.Column.{Column}
use Rattle.ts_page.specs.Pages.{Contents}
use Rattle.ts_space.specs.declared.place.Place.{Place}
use Rattle.ts_space.specs.Place.{IsRising, count_of, pages_of}
use Rattle.ts_space.specs.Directory.{Directory, places_of}
use Rattle.ts_cells.specs.IrregularPage.{Element, AreInOrder}
use Rattle.ts_irregular.specs.Edit.{element_at, with_element, without_element}
use Rattle.ts_sheets.specs.Stamped.{IsChain, all_in, stamped, HaveStarts}
use Rattle.ts_sheets.specs.Places.{AreChained}
use Rattle.ts_regular.specs.Places.{OffsetPage, AreOn, all_in as all_at}
use Rattle.ts_offset.specs.Grid.{GridPlan, stamp_of}
use Rattle.ts_offset.specs.declared.shape.Shape.{Shape}
use Rattle.ts_offset.specs.declared.shape.Shape.TheVariants.{Irregular, Regular}
use Rattle.ts_model.specs.declared.kind.Kind.TheVariants as kinds
use Rattle.ts_model.specs.Definitions.{SeriesDef, series_slots, at_slot, with_slot}
use Rattle.ts_layout.specs.Sheets.{Sheet, AreInSequence, AreSheetsOn, elements_in}
use Rattle.ts_layout.specs.Meaning.{Layout, HoldsDefinitions, HoldsLayout, IsSound, heading_at, shape_at, elements_at}
use Rattle.ts_layout.specs.Meaning.{catalogue_of}
use Rattle.ts_layout.specs.Surveyed.{ListsPlaces}
use Rattle.ts_layout.specs.Chains.{by_stamp, with_elements_at, AreFilled, KeepsQuotaOf, IsChainOf, IsOnGrid}
use Rattle.ts_layout.specs.Chains.{chain_sheets, grid_sheets, AreAllFreed, rewritten, without_series}
use Rattle.ts_layout.specs.Held.{IsHeldOf, IsRewrittenIn}

-- The pages of a series, in the order of its places, have all its elements, as many as its places tell: those of an
-- irregular series are a chain, those of a regular one have cells at the offsets of its grid.
pub record SeriesAreOnPages : Type 0 where
  pub chain : (l : Layout) (space : Directory) (slot : ℕ) (h : Heading) (pages : ℕ → List ℕ) → IsSound l → AreFilled l
      → ListsPlaces space l
      → slot < series_slots → heading_at l.definitions slot ≡ Some h → shape_at l.definitions slot ≡ Some Irregular
      → HoldsLayout pages l
      → (chain : List (List Element)) × IsChainOf slot h.columns pages (places_of slot space) l chain
  pub grid : (l : Layout) (space : Directory) (slot : ℕ) (h : Heading) (grid : GridPlan) (pages : ℕ → List ℕ)
      → IsSound l → AreFilled l
      → ListsPlaces space l → slot < series_slots → heading_at l.definitions slot ≡ Some h → shape_at l.definitions slot
      ≡ Some (Regular grid)
      → HoldsLayout pages l → (ps : List OffsetPage) × IsOnGrid grid slot h.columns pages (places_of slot space) l ps
  pub rising : (l : Layout) (space : Directory) (slot : ℕ) → ListsPlaces space l → slot < series_slots
      → IsRising (places_of slot space)
  pub count : (l : Layout) (space : Directory) (slot : ℕ) → IsSound l → AreFilled l → ListsPlaces space l
      → slot < series_slots
      → len (elements_at slot l.element_pages) ≡ count_of (places_of slot space)

-- elements in order are a map by their stamps: searched and edited there as in the list
pub record ElementsAreMaps : Type 0 where
  pub entries : (columns : List Column) (es : List Element) → AreInOrder columns es → entries (by_stamp es) ≡ es
  pub found : (stamp : ℤ) (es : List Element) → get (by_stamp es) stamp ≡ element_at stamp es
  pub put : (stamp : ℤ) (row : Row) (es : List Element) → by_stamp (with_element stamp row es)
      ≡ insert (by_stamp es) stamp row
  pub taken : (stamp : ℤ) (es : List Element) → by_stamp (without_element stamp es) ≡ remove (by_stamp es) stamp
  pub count : (columns : List Column) (es : List Element) → AreInOrder columns es → len (by_stamp es) ≡ length es

-- a chain, and pages with cells on a grid, are sheets with the same elements
pub record PagesAreSheets : Type 0 where
  pub chain : (slot : ℕ) (columns : List Column) (pages : ℕ → List ℕ) (places : List Place)
      (chain : List (List Element)) → IsChain columns chain
      → AreChained slot columns pages places chain
      → AreInSequence Irregular columns (chain_sheets chain)
      × AreSheetsOn Irregular slot columns pages places (chain_sheets chain)
      × (elements_in (chain_sheets chain) ≡ all_in chain)
  pub grid : (grid : GridPlan) (slot : ℕ) (columns : List Column) (pages : ℕ → List ℕ) (places : List Place)
      (ps : List OffsetPage)
      → AreOn slot columns pages places ps → IsRising places → HaveStarts grid (all_at ps)
      → AreInSequence (Regular grid) columns (grid_sheets grid ps)
      × AreSheetsOn (Regular grid) slot columns pages places (grid_sheets grid ps)
      × (elements_in (grid_sheets grid ps) ≡ stamped grid (all_at ps))

-- the pages of one series become others: what the pages hold then, what is kept of them, and which catalogue they mean
pub record SeriesAreRewritten : Type 0 where
  pub bytes : (l : Layout) (space : Directory) (shape : Shape) (slot : ℕ) (h : Heading) (new : List Place)
      (sheets : List Sheet) (v w : Contents)
      → IsRewrittenIn shape slot h space new sheets v w l → HoldsLayout v.page l
      → HoldsLayout w.page (rewritten slot (pages_of new) sheets l)
  pub places : (l : Layout) (space space' : Directory) (shape : Shape) (slot : ℕ) (h : Heading) (new : List Place)
      (sheets : List Sheet) (v w : Contents)
      → IsRewrittenIn shape slot h space new sheets v w l → space'.lists ≡ slice_set space.lists slot new
      → ListsPlaces space' (rewritten slot (pages_of new) sheets l)
  pub kept : (l : Layout) (space space' : Directory) (shape : Shape) (slot : ℕ) (h : Heading) (new : List Place)
      (sheets : List Sheet) (v w : Contents)
      → IsRewrittenIn shape slot h space new sheets v w l → space'.lists ≡ slice_set space.lists slot new
      → KeepsQuotaOf slot (rewritten slot (pages_of new) sheets l)
      → IsHeldOf l.definitions space' w.count w.free (rewritten slot (pages_of new) sheets l)
  pub catalogue : (l : Layout) (space : Directory) (shape : Shape) (slot : ℕ) (h : Heading) (s : SeriesDef)
      (new : List Place) (sheets : List Sheet) (v w : Contents)
      → IsRewrittenIn shape slot h space new sheets v w l → at_slot slot l.definitions.series ≡ Some s
      → catalogue_of (rewritten slot (pages_of new) sheets l)
      ≡ with_elements_at slot s (by_stamp (elements_in sheets)) l

-- pages that hold a layout hold elements of defined series alone, in order
abbrev pub HeldPagesAreFilled : Type 0
HeldPagesAreFilled = (pages : ℕ → List ℕ) (l : Layout) → HoldsLayout pages l → AreFilled l

-- a series is dropped, and its pages are free: what the pages hold then, what is kept of them, and which catalogue they
-- mean
pub record SeriesAreDropped : Type 0 where
  pub bytes : (l : Layout) (space : Directory) (slot : ℕ) (v w : ℕ → List ℕ) → IsSound l → ListsPlaces space l
      → slot < series_slots
      → HoldsDefinitions w (with_slot kinds.Series slot None l.definitions) → w 0 ≡ v 0
      → AreAllFreed (places_of slot space) v w
      → HoldsLayout v l → HoldsLayout w (without_series slot l)
  pub kept : (l : Layout) (space space' : Directory) (slot count : ℕ) (free free' : List ℕ)
      → IsHeldOf l.definitions space count free l
      → slot < series_slots → length space.lists ≡ series_slots → space'.lists ≡ slice_set space.lists slot []
      → IsPermutation (free ++ pages_of (places_of slot space)) free'
      → IsHeldOf (with_slot kinds.Series slot None l.definitions) space' count free' (without_series slot l)
  pub catalogue : (l : Layout) (slot : ℕ) (s : SeriesDef) → IsSound l → at_slot slot l.definitions.series ≡ Some s
      → catalogue_of (without_series slot l) ≡ without kinds.Series s.key (catalogue_of l)

-- in a layout that is filled, each element of a regular series stands at an on start of its grid
abbrev pub RegularElementsAreOnStarts : Type 0
RegularElementsAreOnStarts = (l : Layout) (slot : ℕ) (grid : GridPlan) → AreFilled l → shape_at l.definitions slot
    ≡ Some (Regular grid)
    → (stamp : ℤ) (row : Row) → get (elements_at slot l.element_pages) stamp ≡ Some row → (n : ℕ)
    × (stamp_of grid n ≡ Some stamp)
