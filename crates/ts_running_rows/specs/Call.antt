-- What a call makes of the elements from one stamp to another.
use Rattle.std.specs.Prelude.{ℤ, Result, Ok, Err, List}
use Rattle.ts_base.specs.declared.refusal.Refusal.{Refusal}
use Rattle.ts_row.specs.Row.{Element, seen}
use Rattle.ts_sheets.specs.Stamped.{within_range}
use Rattle.ts_base.specs.Answer.{within_rows}

-- rows that are made of elements, where these aren't refused
abbrev pub rows_by : (List Element → Result (List Element) Refusal) → Result (List Element) Refusal →
    Result (List Element) Refusal
rows_by make (Ok es) = make es
rows_by make (Err why) = Err why

-- the rows of the elements in a range that aren't hidden, where they are no more than a reply may have
abbrev pub rows_within : (List Element → Result (List Element) Refusal) → ℤ → ℤ → List Element →
    Result (List Element) Refusal
rows_within make from to es = rows_by make (within_rows (within_range from to (seen es)))
