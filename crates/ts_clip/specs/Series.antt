-- The pages of a series as elements at stamps, whatever its shape: at any stamps, or on a grid at the on starts of
-- their offsets.
use Rattle.std.specs.Prelude.{◌≡◌, ℕ, ◌≤◌, ℤ, Bool, IsTrue, All, Contains, List}
use Rattle.std.specs.List.{AllZip}
use Rattle.ts_page.specs.declared.page.Page.{Page}
use Rattle.ts_space.specs.Place.{count_of}
use Rattle.ts_sheets.specs.Stamped.{within_range, IsChain, all_in, stamped, HaveStarts}
use Rattle.ts_page.specs.Pages.{Contents}
use Rattle.ts_row.specs.declared.kind.Column.{Column}
use Rattle.ts_row.specs.Row.{Element}
use Rattle.ts_space.specs.declared.place.Place.{Place}
use Rattle.ts_sheets.specs.Places.{AreChained}
use Rattle.ts_sheets.specs.Places as chain
use Rattle.ts_regular.specs.Places.{OffsetPage, AreOn, all_in as all_at}
use Rattle.ts_regular.specs.Places as regular
use Rattle.ts_offset.specs.Grid.{GridPlan}
use Rattle.ts_offset.specs.declared.shape.Shape.{Shape}
use Rattle.ts_offset.specs.declared.shape.Shape.TheVariants.{Irregular, Regular}

-- places such as an edit asks for
abbrev pub ArePlaces : Shape → List Column → Contents → List Place → Type 0
ArePlaces Irregular columns c places = chain.ArePlaces columns c places
ArePlaces (Regular grid) columns c places = regular.ArePlaces columns c places

-- pages have a chain of these elements, of which places tell
pub record HaveChain (slot : ℕ) (columns : List Column) (pages : ℕ → List ℕ) (places : List Place)
    (es : List Element) : Type 0 where
  pub chain : List (List Element)
  pub is : IsChain columns chain
  pub on : AreChained slot columns pages places chain
  pub all : all_in chain ≡ es

-- pages have cells on a grid with these elements, each at the on start of its offset, and places tell of them
pub record HaveCells (grid : GridPlan) (slot : ℕ) (columns : List Column) (pages : ℕ → List ℕ)
    (places : List Place) (es : List Element) : Type 0 where
  pub cells : List OffsetPage
  pub on : AreOn slot columns pages places cells
  pub starts : HaveStarts grid (all_at cells)
  pub all : stamped grid (all_at cells) ≡ es

-- pages have these elements of a series of a shape, and places tell of them
abbrev pub HaveElements : Shape → ℕ → List Column → (ℕ → List ℕ) → List Place → List Element → Type 0
HaveElements Irregular slot columns pages places es = HaveChain slot columns pages places es
HaveElements (Regular grid) slot columns pages places es = HaveCells grid slot columns pages places es

-- Where the pages are told, this holds of the elements that they have and their places tell of. Of pages that have none
-- such it says nothing.
abbrev pub IsTold : Bool → Shape → ℕ → List Column → List Place → Contents → (List Element → Type 0) → Type 0
IsTold tells shape slot columns places v P =
    IsTrue tells → (es : List Element) → HaveElements shape slot columns v.page places es → P es

-- pages have these elements where some places tell of them, whatever stands on other pages of the series
abbrev pub HaveOnPlaces : Shape → ℕ → List Column → (ℕ → List ℕ) → List Place → List Element → Type 0
HaveOnPlaces Irregular slot columns pages places es =
    (chain : List (List Element)) × AreChained slot columns pages places chain × (all_in chain ≡ es)
HaveOnPlaces (Regular grid) slot columns pages places es =
    (cells : List OffsetPage) × AreOn slot columns pages places cells × HaveStarts grid (all_at cells)
    × (stamped grid (all_at cells) ≡ es)

-- Where the pages are told, this holds of the elements that they have where these places tell of them.
abbrev pub IsToldOnPlaces : Bool → Shape → ℕ → List Column → List Place → Contents → (List Element → Type 0) → Type 0
IsToldOnPlaces tells shape slot columns places v P =
    IsTrue tells → (es : List Element) → HaveOnPlaces shape slot columns v.page places es → P es

-- on the pages of some of the places stand all elements from one stamp to another that the series has
pub record HoldRange (shape : Shape) (columns : List Column) (from to : ℤ) (places some : List Place) : Type 0 where
  pub among : All (λ place. Contains places place) some
  pub few : count_of some ≤ count_of places
  pub all : (slot : ℕ) (pages : ℕ → List ℕ) (es : List Element) → HaveElements shape slot columns pages places es
      → (own : List Element) × HaveOnPlaces shape slot columns pages some own
      × (within_range from to own ≡ within_range from to es)

-- these are the pages of places, each at the index of its place
abbrev pub ArePagesOf : (ℕ → List ℕ) → List Place → List Page → Type 0
ArePagesOf pages places read = AllZip (λ place page. page.bytes ≡ pages place.page) places read
