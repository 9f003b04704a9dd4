-- Entries of a series, what is read of them, and elements by intervals.
use Rattle.std.specs.Prelude.{◌≡◌, ℕ, ◌-◌, ℤ, pos, int_lt, unsigned_abs, Bool, false, not, if◌then◌else◌, IsTrue}
use Rattle.std.specs.Prelude.{Option, Some, None, option_to_list, List, length, slice_get, map, filter, nat_lt, take}
use Rattle.std.specs.Prelude.{drop, option_map, filter_map, ◌&&◌}
use Rattle.ts_base.specs.Moment.{is_between}
use Rattle.ts_row.specs.declared.kind.Column.{Column}
use Rattle.ts_row.specs.declared.row.Elem.{Elem}
use Rattle.ts_row.specs.Row.{Row, fits, Element, seen}
use Rattle.ts_row.specs.Encoding.{row_bytes}
use Rattle.ts_calendar.specs.Calendars.{CalendarPlan}
use Rattle.ts_offset.specs.Grid.{GridPlan, starts_of, held_start, starts_between}
use Rattle.ts_offset.specs.declared.shape.Shape.{Shape}
use Rattle.ts_offset.specs.declared.shape.Shape.TheVariants.{Irregular, Regular}
use Rattle.ts_irregular.specs.Edit.{element_at, last_of}

-- Entries of a series: a stamp, and the row of the element that stands there or none.

-- a stamp with a row or none
abbrev pub Entry : Type 0
Entry = ℤ × Option Row

-- an element as an entry
abbrev pub filled : Element → Entry
filled e = (e.0, Some e.1)

-- the element of an entry, if it has one
abbrev pub element_of : Entry → Option Element
element_of entry = option_map (λ row. (entry.0, row)) entry.1

-- the elements of entries, without the entries that have none
abbrev pub elements_of : List Entry → List Element
elements_of entries = filter_map element_of entries

-- an element, and elements, as they are kept
abbrev pub element_in : Elem → Element
element_in e = (e.stamp, e.row)

abbrev pub elements_in : List Elem → List Element
elements_in es = map element_in es

-- bytes are those of this row of such columns, which isn't hidden
pub record AreSeenBytes (columns : List Column) (bytes : List ℕ) (row : Row) : Type 0 where
  pub fits : IsTrue (fits columns row)
  pub seen : row.hidden ≡ false
  pub is : row_bytes columns row ≡ bytes

-- entries were taken, so many
pub record AreTaken (took : List Entry → Type 0) (entries : List Entry) (count : ℕ) : Type 0 where
  pub taken : took entries
  pub number : count ≡ length entries

-- What is read of a series: its elements that aren't hidden, and on a grid an entry without an element at each on start
-- between them and the origin.

-- the entry of some elements at a stamp
abbrev pub entry_at : List Element → ℤ → Entry
entry_at es stamp = (stamp, element_at stamp es)

-- a stamp isn't later than that of an element, if there is one
abbrev pub is_reached : Option Element → ℤ → Bool
is_reached None stamp = false
is_reached (Some last) stamp = not (int_lt last.0 stamp)

-- the on starts of a grid from its origin to the last of some elements
abbrev pub starts_to_last : GridPlan → List Element → List ℤ
starts_to_last grid es = filter (is_reached (last_of es)) (starts_of grid)

-- the entries of elements: one each; on a grid one at each on start from the origin to the last of them
abbrev pub entries_of : Shape → List Element → List Entry
entries_of Irregular es = map filled es
entries_of (Regular grid) es = map (entry_at es) (starts_to_last grid es)

-- the reading of a series: the entries of its elements that aren't hidden
abbrev pub reading : Shape → List Element → List Entry
reading shape es = entries_of shape (seen es)

-- the entries from one stamp to another, both included
abbrev pub clipped : ℤ → ℤ → List Entry → List Entry
clipped from to entries = filter (λ e. is_between from to e.0) entries

-- the last so many of a list, or all where there are fewer
abbrev pub last_ones : {A : Type 0} → ℕ → List A → List A
last_ones n xs = drop (length xs - n) xs

-- the first n entries from a stamp on; where n is negative, the last -n up to the stamp, in rising order
abbrev pub counted : ℤ → ℤ → List Entry → List Entry
counted stamp n entries =
    if int_lt n (pos 0) then last_ones (unsigned_abs n) (filter (λ e. not (int_lt stamp e.0)) entries)
    else take (unsigned_abs n) (filter (λ e. not (int_lt e.0 stamp)) entries)

-- the entry of a number, counted from 0, as a list of one or none
abbrev pub entry_number : ℕ → List Entry → List Entry
entry_number n entries = option_to_list (slice_get entries n)

-- the first element that isn't hidden
abbrev pub first_seen : List Element → Option Element
first_seen es = slice_get (seen es) 0

-- Elements by the on intervals of a calendar that hold their stamps.

-- a stamp is this start, if there is one
abbrev pub is_start : ℤ → Option ℤ → Bool
is_start s None = false
is_start s (Some start) = not (int_lt s start) && not (int_lt start s)

-- of some elements those that the on interval holds which starts there
abbrev pub held_from : CalendarPlan → List Element → ℤ → List Element
held_from calendar es start = filter (λ e. is_start start (held_start calendar e.0)) es

-- a start with the elements that its interval holds
abbrev pub Group : Type 0
Group = ℤ × List Element

-- the on starts from one stamp to another, both included, each with the elements that its interval holds, where it
-- holds some
abbrev pub grouped : CalendarPlan → ℤ → ℤ → List Element → List Group
grouped calendar from to es =
    filter (λ g. nat_lt 0 (length g.1)) (map (λ start. (start, held_from calendar es start))
    (starts_between calendar from to))

-- what a function makes of the rows of each of these groups, as an element at its start
abbrev pub by_interval : (List Row → Row) → CalendarPlan → ℤ → ℤ → List Element → List Element
by_interval f calendar from to es = map (λ g. (g.0, f (map (λ e. e.1) g.1))) (grouped calendar from to es)
