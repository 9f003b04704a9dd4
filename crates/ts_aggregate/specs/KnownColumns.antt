-- What is known of a column of rows that stand in cells.
use Rattle.std.specs.Prelude.{◌≡◌, ℕ, ◌+◌, ◌-◌, ℤ, false, List, [], map, take, slice_index_or}
use Rattle.ts_row.specs.declared.kind.Column.{Column}
use Rattle.ts_row.specs.declared.kind.ColumnKind.{ColumnKind}
use Rattle.ts_row.specs.declared.kind.ColumnKind.TheVariants.{Integer}
use Rattle.ts_row.specs.Row.{column_width, width_of}
use Rattle.ts_row.specs.Decoding.{number_in}
use Rattle.ts_expr.specs.Aggregates.{is_text_kind}
use Rattle.ts_aggregate.specs.declared.cells.RowCells.{RowCells}
use Rattle.ts_aggregate.specs.declared.cells.ValuePosition.{ValuePosition}
use Rattle.ts_aggregate.specs.declared.totals.Totals.{Totals}
use Rattle.ts_aggregate.specs.Column.{found_in}
use Rattle.ts_aggregate.specs.Totals.{AreKnown}

-- some column
abbrev pub a_column : Column
a_column = record { name = []; kind = Integer }

-- the kind of a column, and where it stands in cells
abbrev pub kind_at : List Column → ℕ → ColumnKind
kind_at columns n = (slice_index_or columns n a_column).kind

abbrev pub position_at : List Column → RowCells → ℕ → ValuePosition
position_at columns r n = record {
  size = r.size;
  front = r.front;
  place = r.front + width_of (take n columns);
  width = column_width (kind_at columns n) - 1;
}

-- the numbers of a column in cells
abbrev pub numbers_at : List Column → RowCells → ℕ → List ℤ
numbers_at columns r n = map (number_in (kind_at columns n)) (found_in (position_at columns r n) r.left r.bytes.now)

-- a column is one of numbers, of which this is known
pub record IsKnown (columns : List Column) (r : RowCells) (n : ℕ) (totals : Totals) : Type 0 where
  pub numbers : is_text_kind (kind_at columns n) ≡ false
  pub known : AreKnown (numbers_at columns r n) totals
