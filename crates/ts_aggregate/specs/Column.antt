-- The values of a column in cells that stand one behind the other.
use Rattle.std.specs.Prelude.{◌≡◌, ℕ, zero, suc, ◌+◌, ◌*◌, ◌<◌, ◌≤◌, ◌^◌, Bool, not, ◌&&◌, ◌==◌, if◌then◌else◌, nat_lt}
use Rattle.std.specs.Prelude.{ℤ, unsigned_abs, Option, Some, None, List, [], ◌∷◌, ◌++◌, length, map, take, drop}
use Rattle.std.specs.Prelude.{slice_index}
use Rattle.std.specs.Borrow.{Bor}
use Rattle.std.specs.Int.{w128, from_be_bytes, cast_signed}
use Rattle.ts_row.specs.declared.kind.Column.{Column}
use Rattle.std.specs.Ordering.{is_lt, is_gt}
use Rattle.std.specs.declared.cmp.Ordering.{Ordering}
use Rattle.ts_row.specs.declared.kind.ColumnKind.{ColumnKind}
use Rattle.ts_row.specs.declared.kind.ColumnKind.TheVariants.{VarChar}
use Rattle.ts_row.specs.declared.value.Value.{Value}
use Rattle.ts_row.specs.declared.value.Value.TheVariants.{Null, Number, Text}
use Rattle.ts_row.specs.Row.{width_of}
use Rattle.ts_row.specs.Decoding.{is_mark, number_in}
use Rattle.ts_expr.specs.Aggregates.{lesser, greater}
use Rattle.ts_aggregate.specs.declared.cells.RowCells.{RowCells}
use Rattle.ts_aggregate.specs.declared.cells.ValuePosition.{ValuePosition}
use Rattle.ts_aggregate.specs.declared.cells.Cells.{Cells}

-- a cell has an element that isn't hidden, and in the column a value, not NULL
abbrev pub has_value : ValuePosition → List ℕ → Bool
has_value s cell = slice_index cell 0 == 1 && not (is_mark (slice_index cell s.front)) && slice_index cell s.place == 1

-- the bytes of that value
abbrev pub bytes_of : ValuePosition → List ℕ → List ℕ
bytes_of s cell = take s.width (drop (s.place + 1) cell)

-- the bytes of a value before others, where a cell has one
abbrev pub with_cell : ValuePosition → List ℕ → List (List ℕ) → List (List ℕ)
with_cell s cell others = if has_value s cell then bytes_of s cell ∷ others else others

-- the bytes of the values in so many cells, in order
abbrev pub found_in : ValuePosition → ℕ → List ℕ → List (List ℕ)
found_in s zero cells = []
found_in s (suc n) cells = with_cell s (take s.size cells) (found_in s n (drop s.size cells))

-- those in all of them
abbrev pub found : Cells → List (List ℕ)
found c = found_in c.position c.left c.bytes.now

-- the column stands within a cell, and there are so many cells
pub record AreCells (s : ValuePosition) (left : ℕ) (bytes : List ℕ) : Type 0 where
  pub front : s.front < s.size
  pub place : s.place + s.width < s.size
  pub whole : length bytes ≡ left * s.size

abbrev pub AreWhole : Cells → Type 0
AreWhole c = AreCells c.position c.left c.bytes.now

-- the first value's bytes, and the cells behind it
pub record IsNext (c : Cells) (value : List ℕ) (rest : Cells) : Type 0 where
  pub first : found c ≡ value ∷ found rest
  pub size : length value ≡ c.position.width
  pub position : rest.position ≡ c.position
  pub whole : AreWhole rest
  pub fewer : rest.left < c.left

-- the last value's bytes
pub record IsLast (c : Cells) (value : List ℕ) : Type 0 where
  pub before : List (List ℕ)
  pub last : found c ≡ before ++ value ∷ []
  pub size : length value ≡ c.position.width

-- a text stands behind its length
abbrev pub text_of : List ℕ → List ℕ
text_of [] = []
text_of (size ∷ rest) = take size rest

-- the value of a column that bytes are
abbrev pub read_value : ColumnKind → List ℕ → Value
read_value (VarChar most) bytes = Text (text_of bytes)
read_value kind bytes = Number (number_in kind bytes)

-- the values in cells
abbrev pub read_values : ColumnKind → Cells → List Value
read_values kind c = map (read_value kind) (found c)

-- the numbers of a column of numbers
abbrev pub read_numbers : ColumnKind → Cells → List ℤ
read_numbers kind c = map (number_in kind) (found c)

-- the texts of one of texts
abbrev pub read_texts : Cells → List (List ℕ)
read_texts c = map text_of (found c)

-- the number that sixteen bytes are
abbrev pub long_number : List ℕ → ℤ
long_number bytes = cast_signed w128 (from_be_bytes w128 bytes)

-- it has at most 28 digits
abbrev pub is_small : ℤ → Bool
is_small z = nat_lt (unsigned_abs z) (10 ^ 28)

-- the lesser or the greater of a value, if there is one, and another
abbrev pub better : Bool → Value → Value → Value
better most kept v = if most then greater kept v else lesser kept v

-- what compares so with the one that is kept is lesser, or greater
abbrev pub is_better : Bool → Ordering → Bool
is_better most order = if most then is_gt order else is_lt order

-- a text, if there is one
abbrev pub text_if_any : Option (Bor (List ℕ)) → Value
text_if_any None = Null
text_if_any (Some text) = Text text.now

-- cells of rows of such columns, each with some bytes before its row
pub record AreRowCells (columns : List Column) (s : RowCells) : Type 0 where
  pub some : 0 < s.front
  pub size : s.size ≡ s.front + width_of columns
  pub whole : length s.bytes.now ≡ s.left * s.size
  pub narrow : width_of columns ≤ 1000
  pub small : s.size < 2 ^ 64
  pub few : length s.bytes.now ≤ 4064
