-- Definitions, places and free pages that are those of a layout, and such of which one series gets other pages.
use Rattle.std.specs.Prelude.{◌≡◌, ℕ, ◌+◌, Some, List, length, IsPermutation}
use Rattle.ts_row.specs.Row.{Heading}
use Rattle.ts_page.specs.Pages.{first_element_page, Contents}
use Rattle.ts_space.specs.declared.place.Place.{Place}
use Rattle.ts_space.specs.Directory.{Directory, places_of}
use Rattle.ts_offset.specs.declared.shape.Shape.{Shape}
use Rattle.ts_model.specs.Definitions.{Definitions, series_slots}
use Rattle.ts_layout.specs.Meaning.{AreOfFormat, Layout, heading_at, shape_at, IsSound}
use Rattle.ts_layout.specs.Sheets.{Sheet, elements_in}
use Rattle.ts_layout.specs.Surveyed.{ListsPlaces, free_pages}
use Rattle.ts_layout.specs.Chains.{AreFilled, IsRewritten}

-- Definitions, places, a number of pages and the numbers of the free ones are those of a layout that keeps the rules.
pub record IsHeldOf (d : Definitions) (space : Directory) (count : ℕ) (numbers : List ℕ) (l : Layout) : Type 0 where
  pub definitions : d ≡ l.definitions
  pub size : count ≡ first_element_page + length l.element_pages
  pub places : ListsPlaces space l
  pub free : IsPermutation numbers (free_pages l)
  pub rules : IsSound l
  pub filled : AreFilled l

-- A layout is held, and the series in a slot gets these places with these sheets, whose elements are of the format.
pub record IsRewrittenIn (shape : Shape) (slot : ℕ) (h : Heading) (space : Directory) (new : List Place)
    (sheets : List Sheet) (v w : Contents) (l : Layout) : Type 0 where
  pub held : IsHeldOf l.definitions space v.count v.free l
  pub slots : length space.lists ≡ series_slots
  pub heading : heading_at l.definitions slot ≡ Some h
  pub lies : shape_at l.definitions slot ≡ Some shape
  pub of_format : AreOfFormat l.definitions.format (elements_in sheets)
  pub count : w.count ≡ v.count
  pub edit : IsRewritten shape slot h.columns (places_of slot space) new sheets v w
