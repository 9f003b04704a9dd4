-- What is read of the pages of a regular series: its entries by their offsets, and its elements a page at a time.
use Rattle.std.specs.Prelude.{◌≡◌, ℕ, ◌-◌, Bool, Option, List, length, map, take, drop, slice_get}
use Rattle.ts_space.specs.declared.place.Place.{Place}
use Rattle.ts_space.specs.Directory.{Directory, places_of}
use Rattle.ts_page.specs.Pages.{Contents}
use Rattle.ts_row.specs.Row.{Element, seen}
use Rattle.ts_row.specs.declared.row.Shelf.{Shelf}
use Rattle.ts_offset.specs.Grid.{GridPlan, starts_of}
use Rattle.ts_offset.specs.declared.shape.Shape.TheVariants.{Regular}
use Rattle.ts_regular.specs.Call as regular
use Rattle.ts_regular.specs.RegularPage.{OffsetElement, seen as seen_of}
use Rattle.ts_regular.specs.OnePage.{IsToldOn}
use Rattle.ts_regular.specs.Places.{OffsetPage}
use Rattle.ts_regular.specs.Range.{within}
use Rattle.ts_sheets.specs.Stamped.{stamped}
use Rattle.ts_entry.specs.Entry.{Entry, elements_of, entry_at}
use Rattle.ts_clip.specs.Series.{IsTold}

-- entries stand at the first on starts of a grid, one at each
abbrev pub AreAtStarts : GridPlan → List Entry → Type 0
AreAtStarts grid entries = map (λ e. e.0) entries ≡ take (length entries) (starts_of grid)

-- the entries whose offsets are from one up to, not including, another
abbrev pub between : ℕ → ℕ → List Entry → List Entry
between lower upper entries = take (upper - lower) (drop lower entries)

-- the entries of such offsets, one at each on start, with these elements
abbrev pub entries_at : GridPlan → ℕ → ℕ → List Element → List Entry
entries_at grid lower upper es = map (entry_at (seen es)) (take (upper - lower) (drop lower (starts_of grid)))

-- of elements at offsets the first that isn't hidden
abbrev pub first_of : List OffsetElement → Option OffsetElement
first_of es = slice_get (seen_of es) 0

-- those in a range of offsets that aren't hidden, each at its on start
abbrev pub stamped_within : GridPlan → ℕ → ℕ → List OffsetElement → List Element
stamped_within grid lower upper es = stamped grid (seen_of (within lower upper es))

-- entries were taken that have these elements, perhaps with others between them that have none
pub record HaveTaken (took : List Entry → Type 0) (es : List Element) : Type 0 where
  pub entries : List Entry
  pub taken : took entries
  pub are : elements_of entries ≡ es

-- where the pages are told, this holds of the elements of the series, each at its on start
abbrev pub HoldsOfGrid : Bool → GridPlan → Shelf → Directory → Contents → (List Element → Type 0) → Type 0
HoldsOfGrid tells grid shelf space v P =
    IsTold tells (Regular grid) shelf.series shelf.kind.now.columns (places_of shelf.series space) v P

-- where they are told, this holds of the pages that places tell of, each the offset of its first cell and its cells
abbrev pub HoldsOfCellPages : Bool → Shelf → List Place → Contents → (List OffsetPage → Type 0) → Type 0
HoldsOfCellPages tells shelf places v P = regular.IsTold tells shelf.series shelf.kind.now.columns places v P

-- where they are told, this holds of the page that a place tells of
abbrev pub HoldsOfCellPage : Bool → Shelf → Place → Contents → (OffsetPage → Type 0) → Type 0
HoldsOfCellPage tells shelf place v P = IsToldOn tells shelf.series shelf.kind.now.columns place v P
