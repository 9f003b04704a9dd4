-- Rows in the bytes of cells: a cell has a byte that tells whether an element stands there, on some pages its stamp,
-- and its row.
use Rattle.std.specs.Prelude.{◌≡◌, ℕ, ◌+◌, IsTrue, IfSome, Option, Some, None, List, [], ◌∷◌, map, option_map}
use Rattle.std.specs.Prelude.{filter_map, slice_get, take, drop}
use Rattle.ts_row.specs.declared.kind.Column.{Column}
use Rattle.ts_row.specs.Row.{width_of, Row, fits, Element}
use Rattle.ts_row.specs.Encoding.{row_bytes}
use Rattle.ts_entry.specs.declared.stamps.Stamps.{Stamps}
use Rattle.ts_entry.specs.Stamps.{HasStamp}

-- the bytes of a cell are those of an element with this row, hidden or not, behind so many others; or none stands there
abbrev pub IsCellWith : List Column → ℕ → List ℕ → Option Row → Type 0
IsCellWith columns front cell None = slice_get cell 0 ≡ Some 0
IsCellWith columns front cell (Some row) =
    (slice_get cell 0 ≡ Some 1) × IsTrue (fits columns row) × (row_bytes columns row ≡ drop front cell)

-- bytes are those of such cells, one behind the other
abbrev pub AreCellsWith : List Column → ℕ → List ℕ → List (Option Row) → Type 0
AreCellsWith columns front cells [] = cells ≡ []
AreCellsWith columns front cells (found ∷ others) =
    IsCellWith columns front (take (front + width_of columns) cells) found
    × AreCellsWith columns front (drop (front + width_of columns) cells) others

-- the rows in some cells, in order
abbrev pub rows_in : List (Option Row) → List Row
rows_in cells = filter_map (λ found. found) cells

-- the row of the element in a cell, if one stands there
abbrev pub row_if_any : Option Element → Option Row
row_if_any found = option_map (λ e. e.1) found

-- the elements in some cells, in order
abbrev pub elements_in : List (Option Element) → List Element
elements_in cells = filter_map (λ found. found) cells

-- the elements in cells of so many bytes, of which the first has this number, stand at these stamps
abbrev pub AreStamped : Stamps → ℕ → ℕ → List ℕ → List (Option Element) → Type 0
AreStamped stamps size number cells [] = Unit {0}
AreStamped stamps size number cells (found ∷ others) =
    IfSome found (λ e. HasStamp stamps number (take size cells) e.0)
    × AreStamped stamps size (number + 1) (drop size cells) others

-- bytes are those of cells of these elements, one behind the other, each with so many others before its row
pub record AreCellsOf (columns : List Column) (front : ℕ) (stamps : Stamps) (cells : List ℕ)
    (found : List (Option Element)) : Type 0 where
  pub rows : AreCellsWith columns front cells (map row_if_any found)
  pub stamped : AreStamped stamps (front + width_of columns) 0 cells found
