-- Elements of a series on a grid, each at the on start so many behind its own.
use Rattle.std.specs.Prelude.{◌≡◌, ℕ, ◌<◌, nat_le, if◌then◌else◌, ℤ, pos, ◌+ℤ◌, Option, Some, None, option_map}
use Rattle.std.specs.Prelude.{option_and_then, unwrap_or, List, [], All, length, map}
use Rattle.ts_row.specs.declared.row.Elem.{Elem}
use Rattle.ts_row.specs.Row.{visible, Element}
use Rattle.ts_irregular.specs.Edit.{last_of}
use Rattle.ts_offset.specs.Grid.{GridPlan, starts_before, stamp_of}
use Rattle.ts_combine.specs.Combine.{from_origin}
use Rattle.ts_entry.specs.Entry.{elements_in}
use Rattle.ts_combine.specs.Rows.{Gathers}
use Rattle.ts_combine.specs.Call.{row_at}
use Rattle.ts_combine.specs.declared.joined.Lagged.{Lagged}
use Rattle.ts_combine.specs.declared.rows.Rows.{Rows}

-- a number up to another
abbrev pub up_to : ℕ → ℕ → Option ℕ
up_to last n = if nat_le n last then Some n else None

-- the offset so many behind one, where it lies from the origin on, up to a last one
abbrev pub offset_behind : ℤ → ℕ → ℕ → Option ℕ
offset_behind by last offset = option_and_then (up_to last) (from_origin (pos offset +ℤ by))

-- the on start of that offset
abbrev pub start_behind : GridPlan → ℤ → ℕ → ℤ → Option ℤ
start_behind grid by last stamp = option_and_then (stamp_of grid) (offset_behind by last (starts_before grid stamp))

-- an element at that on start
abbrev pub moved : GridPlan → ℤ → ℕ → Element → Option Element
moved grid by last e = option_map (λ stamp. (stamp, e.1)) (start_behind grid by last e.0)

-- the offset of the last element
abbrev pub last_offset : GridPlan → List Element → ℕ
last_offset grid es = unwrap_or (option_map (λ e. starts_before grid e.0) (last_of es)) 0

-- the element that a row of Lag is
abbrev pub lagged_row : List Element → Lagged → Element
lagged_row es l = (l.stamp, unwrap_or (row_at es (Some l.index)) (visible []))

-- rows gather rows of Lag, which are these elements
pub record GathersLagged (elems : List Elem) (elements : List Element) (rows : Rows Lagged) : Type 0 where
  pub all : List Lagged
  pub gathers : Gathers rows all
  pub within : All (λ l. l.index < length elems) all
  pub are : map (lagged_row (elements_in elems)) all ≡ elements
