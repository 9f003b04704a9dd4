-- Pages of series as they are seen by stamps, whatever they store: where a page begins, and its elements.
use Rattle.std.specs.Prelude.{◌≡◌, ℕ, ◌%◌, ℤ, pos, ◌<ℤ◌, Some, List, [], ◌∷◌, length, map}
use Rattle.std.specs.List.{flat_map}
use Rattle.ts_row.specs.declared.kind.Column.{Column}
use Rattle.ts_row.specs.Row.{Element}
use Rattle.ts_space.specs.declared.place.Place.{Place}
use Rattle.ts_cells.specs.IrregularPage.{page_room, IsIrregularPage, first_stamp}
use Rattle.ts_cells.specs.IrregularPage as irregular
use Rattle.ts_sheets.specs.Stamped.{IsChain, stamped, HaveStarts}
use Rattle.ts_regular.specs.RegularPage.{Cell, regular_room, elements_from, IsRegularPage}
use Rattle.ts_regular.specs.RegularPage as regular
use Rattle.ts_offset.specs.Grid.{GridPlan}
use Rattle.ts_offset.specs.declared.shape.Shape.{Shape}
use Rattle.ts_offset.specs.declared.shape.Shape.TheVariants.{Irregular, Regular}

-- where a page begins, at its first stamp or, on a grid, at the offset of its first cell; and its elements
abbrev pub Sheet : Type 0
Sheet = ℤ × List Element

-- the elements of sheets, one after the other
abbrev pub elements_in : List Sheet → List Element
elements_in sheets = flat_map (λ sheet. sheet.1) sheets

-- Cells from an offset on as a sheet: it begins there, and each element has an on start, at which it stands.
pub record IsStampedOn (grid : GridPlan) (base : ℕ) (cells : List Cell) (sheet : Sheet) : Type 0 where
  pub begins : sheet.0 ≡ pos base
  pub starts : HaveStarts grid (elements_from base cells)
  pub elements : sheet.1 ≡ stamped grid (elements_from base cells)

-- cells of such columns that a page on a grid can have, as a sheet
pub record FillGridSheet (grid : GridPlan) (columns : List Column) (sheet : Sheet) : Type 0 where
  pub base : ℕ
  pub cells : List Cell
  pub whole : base % regular_room columns ≡ 0
  pub fill : regular.FillPage columns cells
  pub on : IsStampedOn grid base cells sheet

-- a sheet that a page of a series of a shape can have
abbrev pub FillSheet : Shape → List Column → Sheet → Type 0
FillSheet Irregular columns sheet = irregular.FillPage columns sheet.1 × (first_stamp sheet.1 ≡ Some sheet.0)
FillSheet (Regular grid) columns sheet = FillGridSheet grid columns sheet

-- these bytes are the page of a sheet of the series in a slot on a grid
pub record HoldsGridSheet (grid : GridPlan) (slot : ℕ) (columns : List Column) (sheet : Sheet)
    (page : List ℕ) : Type 0 where
  pub base : ℕ
  pub cells : List Cell
  pub bytes : IsRegularPage slot columns base cells page
  pub on : IsStampedOn grid base cells sheet

-- the same of a shape
abbrev pub HoldsSheet : Shape → ℕ → List Column → Sheet → List ℕ → Type 0
HoldsSheet Irregular slot columns sheet page = IsIrregularPage slot columns sheet.1 page
    × (first_stamp sheet.1 ≡ Some sheet.0)
HoldsSheet (Regular grid) slot columns sheet page = HoldsGridSheet grid slot columns sheet page

-- how many elements a page of a shape can have
abbrev pub room_of : Shape → List Column → ℕ
room_of Irregular columns = page_room columns
room_of (Regular grid) columns = regular_room columns

-- each sheet begins before the next
abbrev pub BeginInOrder : List Sheet → Type 0
BeginInOrder [] = Unit {0}
BeginInOrder (a ∷ []) = Unit {0}
BeginInOrder (a ∷ b ∷ sheets) = (a.0 <ℤ b.0) × BeginInOrder (b ∷ sheets)

-- The sheets of one series in their order. Those of an irregular series are a chain: no two overlap, and two neighbours
-- never fit one page. Of those on a grid no two begin at one offset.
abbrev pub AreInSequence : Shape → List Column → List Sheet → Type 0
AreInSequence Irregular columns sheets = IsChain columns (map (λ sheet. sheet.1) sheets)
AreInSequence (Regular grid) columns sheets = BeginInOrder sheets

-- the place of a page with a sheet
abbrev pub place_of_sheet : ℕ → Sheet → Place
place_of_sheet number sheet = record { at = sheet.0; page = number; count = length sheet.1 }

-- a page has a sheet of the series in a slot, and its place tells of it
pub record IsSheetOn (shape : Shape) (slot : ℕ) (columns : List Column) (page : List ℕ) (place : Place)
    (sheet : Sheet) : Type 0 where
  pub bytes : HoldsSheet shape slot columns sheet page
  pub tells : place ≡ place_of_sheet place.page sheet

-- the pages have these sheets, each the one that its place tells of
abbrev pub AreSheetsOn : Shape → ℕ → List Column → (ℕ → List ℕ) → List Place → List Sheet → Type 0
AreSheetsOn shape slot columns pages [] [] = Unit {0}
AreSheetsOn shape slot columns pages [] (sheet ∷ sheets) = ⊥
AreSheetsOn shape slot columns pages (place ∷ places) [] = ⊥
AreSheetsOn shape slot columns pages (place ∷ places) (sheet ∷ sheets) =
    IsSheetOn shape slot columns (pages place.page) place sheet × AreSheetsOn shape slot columns pages places sheets
