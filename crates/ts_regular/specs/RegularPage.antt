-- A page of cells for so many offsets in a row, its cells, and elements at offsets.
use Rattle.std.specs.Prelude.{ℕ, suc, ◌+◌, ◌-◌, ◌<◌, ◌≤◌, ◌^◌, ◌==◌, not, Bool, ◌*◌, ◌%◌, ◌/◌, IsTrue, IfSome, Option}
use Rattle.std.specs.Prelude.{Some, None, List, [], ◌∷◌, ◌++◌, filter, length, replicate, slice_get, ◌≡◌}
use Rattle.std.specs.Ordering.{nat_cmp}
use Rattle.std.specs.FinMap.{find, put}
use Rattle.std.specs.Option.{option_map}
use Rattle.std.specs.List.{list_any, flat_map}
use Rattle.ts_row.specs.declared.kind.Column.{Column}
use Rattle.ts_row.specs.Row.{width_of, Row, fits}
use Rattle.ts_row.specs.Encoding.{row_bytes}
use Rattle.ts_page.specs.Pages.{head_bytes}
use Rattle.ts_page.specs.declared.page.Head.TheVariants.{Free, Regular, Irregular}
use Rattle.ts_page.specs.declared.page.Head.{Head}
use Rattle.ts_regular.specs.declared.extent.RegularExtent.{RegularExtent}

-- A cell of a regular page: a byte 1 and the row of an element, or zeros where there is none.

-- the row of an element, or none
abbrev pub Cell : Type 0
Cell = Option Row

-- a row in a cell is one of a row type with these columns
abbrev pub FitsCell : List Column → Cell → Type 0
FitsCell columns cell = IfSome cell (λ row. IsTrue (fits columns row))

-- the bytes of a cell
abbrev pub cell_bytes : List Column → Cell → List ℕ
cell_bytes columns None = 0 ∷ replicate (width_of columns) 0
cell_bytes columns (Some row) = 1 ∷ row_bytes columns row

-- how many bytes a cell has
abbrev pub cell_size : List Column → ℕ
cell_size columns = width_of columns + 1

-- how many cells a page has
abbrev pub regular_room : List Column → ℕ
regular_room columns = 4064 / cell_size columns

-- the offset of the first cell of the page that an offset belongs to
abbrev pub base_of : List Column → ℕ → ℕ
base_of columns offset = (offset / regular_room columns) * regular_room columns

-- Elements at offsets, rising: the list that the pages of a regular series are, and what an edit at one offset makes of
-- it.

-- an element: its offset and its row
abbrev pub OffsetElement : Type 0
OffsetElement = ℕ × Row

-- the elements in cells, of which the first has this offset
abbrev pub elements_from : ℕ → List Cell → List OffsetElement
elements_from offset [] = []
elements_from offset (None ∷ cells) = elements_from (offset + 1) cells
elements_from offset (Some row ∷ cells) = (offset, row) ∷ elements_from (offset + 1) cells

-- each offset is greater than the one before it
abbrev pub AreRising : List OffsetElement → Type 0
AreRising [] = Unit {0}
AreRising (e ∷ []) = Unit {0}
AreRising (e ∷ f ∷ es) = (e.0 < f.0) × AreRising (f ∷ es)

-- the row of the element at an offset, if one is there
abbrev pub element_at : ℕ → List OffsetElement → Option Row
element_at offset es = find nat_cmp offset es

-- the elements with a row at an offset: before the first greater one, or in place of the one that is there
abbrev pub with_element : ℕ → Row → List OffsetElement → List OffsetElement
with_element offset row es = put nat_cmp offset row es

-- all elements but the one at an offset
abbrev pub without_element : ℕ → List OffsetElement → List OffsetElement
without_element offset es = filter (λ e. not (offset == e.0)) es

-- the elements without the hidden ones
abbrev pub seen : List OffsetElement → List OffsetElement
seen es = filter (λ e. not e.1.hidden) es

-- some element is hidden
abbrev pub has_hidden : List OffsetElement → Bool
has_hidden es = list_any (λ e. e.1.hidden) es

-- the last element, if there is one
abbrev pub last_of : List OffsetElement → Option OffsetElement
last_of es = slice_get es (length es - 1)

-- the last element that isn't hidden, if there is one
abbrev pub last_seen : List OffsetElement → Option OffsetElement
last_seen es = last_of (seen es)

-- the greatest offset
abbrev pub last_offset : List OffsetElement → Option ℕ
last_offset es = option_map (λ e. e.0) (last_of es)

-- A regular page: cells for so many offsets in a row, each with the element at its offset or without one.

-- the rows in cells are of a row type with these columns
abbrev pub AreCells : List Column → List Cell → Type 0
AreCells columns [] = Unit {0}
AreCells columns (cell ∷ cells) = FitsCell columns cell × AreCells columns cells

-- how many cells have an element
abbrev pub filled_count : List Cell → ℕ
filled_count [] = 0
filled_count (None ∷ cells) = filled_count cells
filled_count (Some row ∷ cells) = suc (filled_count cells)

-- cells, one behind the other
abbrev pub cells_bytes : List Column → List Cell → List ℕ
cells_bytes columns cells = flat_map (cell_bytes columns) cells

-- what stands behind the head of their page: the cells, and zeros
abbrev pub behind_head : List Column → List Cell → List ℕ
behind_head columns cells = cells_bytes columns cells ++ replicate (4064 - cell_size columns * length cells) 0

-- this holds of the cells that stand behind the head of a page, as many as it has
abbrev pub HoldsOfCells : List Column → List ℕ → (List Cell → Type 0) → Type 0
HoldsOfCells columns behind P =
    (cells : List Cell) → AreCells columns cells → length cells ≡ regular_room columns
    → behind ≡ behind_head columns cells → P cells

-- the page of these cells of the series in a slot; its first cell has the offset `base`
unfoldable pub regular_page : ℕ → List Column → ℕ → List Cell → List ℕ
regular_page slot columns base cells = head_bytes (Regular slot (filled_count cells) base) ++ behind_head columns cells

-- as many cells as a page has, with some element
pub record FillPage (columns : List Column) (cells : List Cell) : Type 0 where
  pub each : AreCells columns cells
  pub room : length cells ≡ regular_room columns
  pub some : 1 ≤ filled_count cells

-- these bytes are the page of these cells of the series in a slot; the offset of its first cell is a multiple of the
-- number of its cells
pub record IsRegularPage (slot : ℕ) (columns : List Column) (base : ℕ) (cells : List Cell)
    (page : List ℕ) : Type 0 where
  pub number : slot < 2 ^ 16
  pub begins : base < 2 ^ 64
  pub whole : base % regular_room columns ≡ 0
  pub fill : FillPage columns cells
  pub bytes : page ≡ regular_page slot columns base cells

-- cells from this offset on have so many elements, the last of them in this cell, and whether some of them is hidden
pub record HasExtent (base : ℕ) (cells : List Cell) (extent : RegularExtent) : Type 0 where
  pub begins : base ≡ extent.base
  pub count : filled_count cells ≡ extent.count
  pub last : last_offset (elements_from base cells) ≡ Some (base + extent.last)
  pub hides : has_hidden (elements_from base cells) ≡ extent.hidden

-- the slot of the series, the number of elements and the offset of the first cell that the head of a regular page tells
abbrev pub told_in : Option Head → Option (ℕ × ℕ × ℕ)
told_in None = None
told_in (Some Free) = None
told_in (Some (Regular series count base)) = Some (series, count, base)
told_in (Some (Irregular series count)) = None
