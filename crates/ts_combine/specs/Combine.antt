-- Rows of two series, and of a series beside itself.
use Rattle.std.specs.Prelude.{ℕ, ℤ, pos, ◌-ℤ◌, int_lt, unsigned_abs, Bool, true, ◌&&◌, ◌||◌, if◌then◌else◌, Option}
use Rattle.std.specs.Prelude.{Some, None, option_map, is_some, option_and_then, Result, Ok, Err, List, [], ◌∷◌, ◌++◌}
use Rattle.std.specs.Prelude.{map, filter, filter_map, replicate}
use Rattle.std.specs.FinMap.{FinMap, entries, from_entries}
use Rattle.std.specs.Ordering.{int_cmp}
use Rattle.std.specs.Int.{int_max}
use Rattle.ts_base.specs.Moment.{is_between}
use Rattle.ts_base.specs.declared.refusal.Refusal.{Refusal}
use Rattle.ts_base.specs.declared.refusal.Refusal.TheVariants.{NotRegular}
use Rattle.ts_base.specs.Answer.{within_rows}
use Rattle.ts_row.specs.declared.value.Value.TheVariants.{Null}
use Rattle.ts_row.specs.Row.{Row, Values, visible, Element}
use Rattle.ts_pattern.specs.declared.junction.Junction.{Junction}
use Rattle.ts_pattern.specs.declared.junction.Junction.TheVariants.{And, Or}
use Rattle.ts_calendar.specs.declared.grid.CommonGrid.{CommonGrid}
use Rattle.ts_calendar.specs.Calendars.{CalendarPlan, common_grid}
use Rattle.ts_offset.specs.Grid.{GridPlan, starts_before, stamp_of, held_start, starts_between}
use Rattle.ts_offset.specs.declared.shape.Shape.{Shape}
use Rattle.ts_offset.specs.declared.shape.Shape.TheVariants.{Irregular, Regular}
use Rattle.ts_irregular.specs.Edit.{element_at}
use Rattle.ts_entry.specs.Entry.{starts_to_last}

-- Two series as one: rows with the columns of both, at the stamps where one or both have an element.

-- a series that is combined: where its elements can stand, how many columns they have, and those that aren't hidden
pub record Side : Type 0 where
  pub shape : Shape
  pub columns : ℕ
  pub elements : List Element

-- elements by their stamps
abbrev pub by_stamp : List Element → FinMap int_cmp Row
by_stamp es = from_entries es

-- the stamps of two lists of elements, in order, each once
abbrev pub merged_stamps : List Element → List Element → List ℤ
merged_stamps es fs = map (λ e. e.0) (entries (by_stamp (es ++ fs)))

-- the stamps from one to another, both included
abbrev pub stamps_between : ℤ → ℤ → List ℤ → List ℤ
stamps_between from to stamps = filter (is_between from to) stamps

-- the calendar that is on at every start of the grid that two have in common, from the later of their starts on
abbrev pub every_start : CalendarPlan → CalendarPlan → CommonGrid → CalendarPlan
every_start a b grid = record {
  start = int_max a.start b.start;
  patt_start = a.patt_start;
  pattern = record { unit = grid.unit; runs = record { on = true; count = 1 } ∷ [] };
}

-- the row that a series on a grid has at a stamp: that of the element whose interval holds it
abbrev pub row_around : GridPlan → List Element → ℤ → Option Row
row_around grid es stamp = option_and_then (λ start. element_at start es) (held_start grid.calendar stamp)

-- the values of a row; NULL in each column where there is none
abbrev pub values_or_nulls : ℕ → Option Row → Values
values_or_nulls columns None = replicate columns Null
values_or_nulls columns (Some row) = row.values

-- both are there, or one at least is
abbrev pub is_kept : {A : Type 0} → Junction → Option A → Option A → Bool
is_kept And a b = is_some a && is_some b
is_kept Or a b = is_some a || is_some b

-- the rows that two series have at a stamp as one element, where it is kept
abbrev pub joined_at : Junction → Side → Side → ℤ → Option Row → Option Row → Option Element
joined_at junction a b stamp x y =
    if is_kept junction x y then Some (stamp, visible (values_or_nulls a.columns x ++ values_or_nulls b.columns y))
    else None

-- what two series on grids have at the starts of the grid that they have in common: at each a series has the element
-- whose interval holds it
abbrev pub rows_on : Junction → Side → GridPlan → Side → GridPlan → ℤ → ℤ → CommonGrid → List Element
rows_on junction a g b h from to grid =
    filter_map (λ s. joined_at junction a b s (row_around g a.elements s) (row_around h b.elements s))
    (starts_between (every_start g.calendar h.calendar grid) from to)

-- the same, where there is such a grid and the rows aren't too many
abbrev pub joined_on : Junction → Side → GridPlan → Side → GridPlan → ℤ → ℤ → Result CommonGrid Refusal
    → Result (List Element) Refusal
joined_on junction a g b h from to (Err why) = Err why
joined_on junction a g b h from to (Ok grid) = within_rows (rows_on junction a g b h from to grid)

-- what two series have at the stamps of their elements
abbrev pub rows_there : Junction → Side → Side → ℤ → ℤ → List Element
rows_there junction a b from to =
    filter_map (λ s. joined_at junction a b s (element_at s a.elements) (element_at s b.elements))
    (stamps_between from to (merged_stamps a.elements b.elements))

-- the same, where the rows aren't too many
abbrev pub joined_there : Junction → Side → Side → ℤ → ℤ → Result (List Element) Refusal
joined_there junction a b from to = within_rows (rows_there junction a b from to)

-- two series as one from a stamp to another: where both are on grids at the starts of the grid that they have in
-- common, else at the stamps of their elements
abbrev pub joined_of : Junction → Side → Side → Shape → Shape → ℤ → ℤ → Result (List Element) Refusal
joined_of junction a b (Regular g) (Regular h) from to =
    joined_on junction a g b h from to (common_grid g.calendar h.calendar)
joined_of junction a b (Regular g) Irregular from to = joined_there junction a b from to
joined_of junction a b Irregular (Regular h) from to = joined_there junction a b from to
joined_of junction a b Irregular Irregular from to = joined_there junction a b from to

abbrev pub joined : Junction → Side → Side → ℤ → ℤ → Result (List Element) Refusal
joined junction a b from to = joined_of junction a b a.shape b.shape from to

-- A series on a grid against itself so many on starts earlier.

-- an offset, unless it lies before the origin
abbrev pub from_origin : ℤ → Option ℕ
from_origin n = if int_lt n (pos 0) then None else Some (unsigned_abs n)

-- the on start so many before one; a negative number leads to a later one
abbrev pub start_before : GridPlan → ℤ → ℤ → Option ℤ
start_before grid by start = option_and_then (stamp_of grid) (from_origin (pos (starts_before grid start) -ℤ by))

-- the element that stands so many on starts before one, at that one
abbrev pub lagged_at : GridPlan → ℤ → List Element → ℤ → Option Element
lagged_at grid by es start =
    option_map (λ row. (start, row)) (option_and_then (λ s. element_at s es) (start_before grid by start))

-- at each on start from the origin to the last element, the one that stands so many on starts before it
abbrev pub lagged : Shape → ℤ → List Element → Result (List Element) Refusal
lagged Irregular by es = Err NotRegular
lagged (Regular grid) by es = within_rows (filter_map (lagged_at grid by es) (starts_to_last grid es))
