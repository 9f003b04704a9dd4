-- A page of elements at stamps, and its cells.
use Rattle.std.specs.Prelude.{ℕ, ◌-◌, ◌*◌, ◌<◌, ◌≤◌, ◌^◌, ◌+◌, ◌/◌, IsTrue, ℤ, ◌<ℤ◌, Option, Some, None, List, [], ◌∷◌}
use Rattle.std.specs.Prelude.{◌++◌, length, ◌≡◌, replicate}
use Rattle.std.specs.List.{flat_map}
use Rattle.std.specs.Int.{w64, to_be_bytes, cast_unsigned}
use Rattle.ts_base.specs.Moment.{IsStamp}
use Rattle.ts_row.specs.declared.kind.Column.{Column}
use Rattle.ts_row.specs.Row.{width_of, fits}
use Rattle.ts_row.specs.Encoding.{row_bytes}
pub use Rattle.ts_row.specs.Row.{Element, seen, has_hidden}
use Rattle.ts_page.specs.Pages.{head_bytes}
use Rattle.ts_page.specs.declared.page.Head.TheVariants.{Free, Regular, Irregular}
use Rattle.ts_page.specs.declared.page.Head.{Head}
use Rattle.ts_cells.specs.declared.extent.Extent.{Extent}

-- A cell of an irregular page: a byte 1, a stamp and a row.

-- an element of a row type with these columns
pub record IsElement (columns : List Column) (e : Element) : Type 0 where
  pub stamp : IsStamp e.0
  pub row : IsTrue (fits columns e.1)

-- the bytes of a stamp: two's complement, the highest byte first
abbrev pub stamp_bytes : ℤ → List ℕ
stamp_bytes stamp = to_be_bytes w64 (cast_unsigned w64 stamp)

-- the bytes of a cell
abbrev pub cell_bytes : List Column → Element → List ℕ
cell_bytes columns e = 1 ∷ stamp_bytes e.0 ++ row_bytes columns e.1

-- how many bytes a cell has
abbrev pub cell_size : List Column → ℕ
cell_size columns = width_of columns + 9

-- how many cells a page has room for
abbrev pub page_room : List Column → ℕ
page_room columns = 4064 / cell_size columns

-- An irregular page: the elements of a series in the order of their stamps, or a part of them.

-- each of them is an element of a row type with these columns
abbrev pub AreElements : List Column → List Element → Type 0
AreElements columns [] = Unit {0}
AreElements columns (e ∷ es) = IsElement columns e × AreElements columns es

-- each stamp is later than the one before it
abbrev pub AreRising : List Element → Type 0
AreRising [] = Unit {0}
AreRising (e ∷ []) = Unit {0}
AreRising (e ∷ f ∷ es) = (e.0 <ℤ f.0) × AreRising (f ∷ es)

-- elements of a row type with these columns, each later than the one before it
pub record AreInOrder (columns : List Column) (es : List Element) : Type 0 where
  pub each : AreElements columns es
  pub rising : AreRising es

-- the elements of a page: one at least, and at most as many as it has room for
pub record FillPage (columns : List Column) (es : List Element) : Type 0 where
  pub some : 1 ≤ length es
  pub room : length es ≤ page_room columns
  pub elements : AreInOrder columns es

-- the cells of elements, one behind the other
abbrev pub cells_bytes : List Column → List Element → List ℕ
cells_bytes columns es = flat_map (cell_bytes columns) es

-- what stands behind the head of their page: their cells, and zeros
abbrev pub behind_head : List Column → List Element → List ℕ
behind_head columns es = cells_bytes columns es ++ replicate (4064 - cell_size columns * length es) 0

-- the page of these elements of the series in a slot
unfoldable pub irregular_page : ℕ → List Column → List Element → List ℕ
irregular_page slot columns es = head_bytes (Irregular slot (length es)) ++ behind_head columns es

-- these bytes are the page of these elements of the series in a slot
pub record IsIrregularPage (slot : ℕ) (columns : List Column) (es : List Element) (page : List ℕ) : Type 0 where
  pub number : slot < 2 ^ 16
  pub fill : FillPage columns es
  pub bytes : page ≡ irregular_page slot columns es

-- the first and the last stamp
abbrev pub first_stamp : List Element → Option ℤ
first_stamp [] = None
first_stamp (e ∷ es) = Some e.0

abbrev pub last_stamp : List Element → Option ℤ
last_stamp [] = None
last_stamp (e ∷ []) = Some e.0
last_stamp (e ∷ f ∷ es) = last_stamp (f ∷ es)

-- the first and the last stamp are these
pub record HasEnds (es : List Element) (first last : ℤ) : Type 0 where
  pub begins : first_stamp es ≡ Some first
  pub ends : last_stamp es ≡ Some last

-- so many elements, from this first stamp to this last one, and whether some of them is hidden
pub record HasExtent (es : List Element) (extent : Extent) : Type 0 where
  pub count : length es ≡ extent.count
  pub ends : HasEnds es extent.first extent.last
  pub hides : has_hidden es ≡ extent.hidden

-- the number of elements that the head of an irregular page tells
abbrev pub irregular_count : Option Head → Option ℕ
irregular_count None = None
irregular_count (Some Free) = None
irregular_count (Some (Regular series count base)) = None
irregular_count (Some (Irregular series count)) = Some count
