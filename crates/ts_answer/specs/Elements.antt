-- Routines on series and elements.
use Rattle.std.specs.Prelude.{ℕ, ◌-◌, Bool, true, false, [], ◌∷◌, ◌++◌, ℤ, List, length, map, slice_get, Option, Some}
use Rattle.std.specs.Prelude.{None, Ok, Err, is_some, option_to_list}
use Rattle.std.specs.List.{fold}
use Rattle.std.specs.FinMap.{empty, entries, from_entries, get, insert, remove, len}
use Rattle.ts_base.specs.declared.refusal.Refusal.TheVariants as refusals
use Rattle.ts_base.specs.Answer.{within_rows}
use Rattle.ts_row.specs.declared.value.Literal.{Literal}
use Rattle.ts_row.specs.Row.{Row, marked, Element, seen}
use Rattle.ts_pattern.specs.declared.junction.Junction.{Junction}
use Rattle.ts_offset.specs.Grid.{grid_of, GridPlan}
use Rattle.ts_offset.specs.declared.shape.Shape.{Shape}
use Rattle.ts_offset.specs.declared.shape.Shape.TheVariants as shapes
use Rattle.ts_expr.specs.declared.function.Function.{Function}
use Rattle.ts_expr.specs.Aggregates.{item, bound}
use Rattle.ts_running.specs.Grammar.{read_column, read_exprs}
use Rattle.ts_running.specs.Binding.{binding}
use Rattle.ts_running.specs.Rows.{running, scales_of, applied_rows}
use Rattle.ts_sheets.specs.Stamped.{within_range, without_range}
use Rattle.ts_model.specs.declared.kind.Kind.TheVariants as kinds
use Rattle.ts_model.specs.Catalogue.{Irregular, Regular, Catalogue, columns_of, quota_of, shape_of, Elements, Series}
use Rattle.ts_model.specs.Catalogue.{with_named, without}
use Rattle.ts_model.specs.Charge.{container_charge}
use Rattle.ts_entry.specs.Entry.{Entry, reading, clipped, counted, entry_number}
use Rattle.ts_combine.specs.Combine.{Side, joined, lagged}
use Rattle.ts_answer.specs.Reply.{ok_line, stamp_line, elements_text, entries_text, count_line, folded_text, Tried}
use Rattle.ts_answer.specs.Reply.{Answered, reached, refused_if, wanted, known, beyond_old_format, a_new_name}
use Rattle.ts_answer.specs.Reply.{a_calendar, a_row, row_at, a_place, an_address, within_quota}
unfoldable use Rattle.ts_answer.specs.Reply.{◌>>=◌}
use Rattle.ts_rolling.specs.Sets.{window_key, control_key, Planned, planned, control_of, windows, live, window_elements}

-- What the routines that create series answer: each tries its refusals in order.

unfoldable pub create_irregular : List ℕ → List ℕ → Catalogue → Tried Answered
create_irregular key container cat = do
  there ← wanted container cat.containers
  new ← a_new_name kinds.Series key cat
  Ok (ok_line, with_named kinds.Series key (record { container = container; kind = Irregular; elements = empty }) cat)

-- a series on the grid of a calendar, whose origin is moved to an on start
unfoldable pub create_regular : List ℕ → List ℕ → ℤ → List ℕ → Catalogue → Tried Answered
create_regular key calendar origin container cat = do
  plan ← a_calendar calendar cat
  there ← wanted container cat.containers
  new ← a_new_name kinds.Series key cat
  grid ← grid_of plan origin
  Ok (
    stamp_line grid.origin,
    with_named kinds.Series key (record {
      container = container;
      kind = Regular calendar grid.origin;
      elements =
          empty;
    }) cat,
  )

-- What routines over the elements of a series answer: each tries its refusals in order.

-- the catalogue with these elements of a series
abbrev pub with_elements : List ℕ → Series → Elements → Catalogue → Catalogue
with_elements key s elements cat = with_named kinds.Series key (record s { elements = elements }) cat

-- the catalogue with this element in a series, in place of one that stands at its stamp
abbrev pub with_element : List ℕ → Series → ℤ → Row → Catalogue → Catalogue
with_element key s stamp row cat = with_elements key s (insert s.elements stamp row) cat

-- the elements that readings speak of, in order: the hidden ones aren't seen
abbrev pub seen_elements : Elements → List Element
seen_elements elements = seen (entries elements)

-- the last of them, as a list of one or none
abbrev pub last_element : Elements → List Element
last_element elements = option_to_list (slice_get (seen_elements elements) (length (seen_elements elements) - 1))

-- the one at a stamp, as a list of one or none; none where there is no stamp
abbrev pub element_at : Option ℤ → Elements → List Element
element_at None elements = []
element_at (Some stamp) elements = seen (map (λ row. (stamp, row)) (option_to_list (get elements stamp)))

-- an element is added, at the place that its stamp gets
unfoldable pub put_element : List ℕ → ℤ → List Literal → Catalogue → Tried Answered
put_element key stamp literals cat = do
  series ← wanted key cat.series
  row ← a_row (columns_of cat series) literals
  at ← an_address series stamp cat
  place ← a_place series.kind at series.elements
  fits ← within_quota (container_charge series.container (with_element key series place row cat)) (quota_of cat series)
  Ok (stamp_line place, with_element key series place row cat)

-- an element stands at its stamp, in place of the one that was there
unfoldable pub put_no_dups : List ℕ → ℤ → List Literal → Catalogue → Tried Answered
put_no_dups key stamp literals cat = do
  series ← wanted key cat.series
  row ← a_row (columns_of cat series) literals
  at ← an_address series stamp cat
  fits ← within_quota (container_charge series.container (with_element key series at row cat)) (quota_of cat series)
  Ok (stamp_line at, with_element key series at row cat)

unfoldable pub insert_element : List ℕ → ℤ → List Literal → Catalogue → Tried Answered
insert_element key stamp literals cat = do
  series ← wanted key cat.series
  row ← a_row (columns_of cat series) literals
  at ← an_address series stamp cat
  free ← refused_if (is_some (get series.elements at)) refusals.Duplicate
  fits ← within_quota (container_charge series.container (with_element key series at row cat)) (quota_of cat series)
  Ok (stamp_line at, with_element key series at row cat)

unfoldable pub update_element : List ℕ → ℤ → List Literal → Catalogue → Tried Answered
update_element key stamp literals cat = do
  series ← wanted key cat.series
  row ← a_row (columns_of cat series) literals
  at ← an_address series stamp cat
  old ← row_at at series.elements
  Ok (stamp_line at, with_element key series at row cat)

-- one for an element, hidden or not; none where there is none
abbrev pub count_if_any : Option Row → ℕ
count_if_any (Some row) = 1
count_if_any None = 0

-- how many elements stand at a stamp, and the others; none where there is no stamp
abbrev pub count_at : Option ℤ → Elements → ℕ
count_at None elements = 0
count_at (Some stamp) elements = count_if_any (get elements stamp)

abbrev pub without_one : Option ℤ → Elements → Elements
without_one None elements = elements
without_one (Some stamp) elements = remove elements stamp

-- the element that a stamp addresses goes, if it addresses one that is there
unfoldable pub delete_element : List ℕ → ℤ → Catalogue → Tried Answered
delete_element key stamp cat = do
  series ← wanted key cat.series
  Ok (
    count_line (count_at (reached (an_address series stamp cat)) series.elements),
    with_elements key series (without_one (reached (an_address series stamp cat)) series.elements) cat,
  )

-- all elements from one stamp to another go, both included
unfoldable pub delete_range : List ℕ → ℤ → ℤ → Catalogue → Tried Answered
delete_range key from to cat = do
  series ← wanted key cat.series
  Ok (
    count_line (length (within_range from to (entries series.elements))),
    with_elements key series (from_entries (without_range from to (entries series.elements))) cat,
  )

-- the element at a stamp is hidden, or visible again; it has its mark already, or gets it
unfoldable pub mark_element : Bool → List ℕ → ℤ → Catalogue → Tried Answered
mark_element hidden key stamp cat = do
  series ← wanted key cat.series
  marks ← beyond_old_format true cat.format
  at ← an_address series stamp cat
  row ← row_at at series.elements
  Ok (stamp_line at, with_element key series at (marked hidden row) cat)

unfoldable pub get_element : List ℕ → ℤ → Catalogue → Tried Answered
get_element key stamp cat = do
  series ← wanted key cat.series
  Ok (elements_text (columns_of cat series) (element_at (reached (an_address series stamp cat)) series.elements), cat)

unfoldable pub get_last_element : List ℕ → Catalogue → Tried Answered
get_last_element key cat = do
  series ← wanted key cat.series
  Ok (elements_text (columns_of cat series) (last_element series.elements), cat)

unfoldable pub count_elements : List ℕ → Catalogue → Tried Answered
count_elements key cat = do
  series ← wanted key cat.series
  Ok (count_line (len series.elements), cat)

-- the first of the elements that readings speak of, as a list of one or none
abbrev pub first_element : Elements → List Element
first_element elements = option_to_list (slice_get (seen_elements elements) 0)

unfoldable pub get_first_element : List ℕ → Catalogue → Tried Answered
get_first_element key cat = do
  series ← wanted key cat.series
  Ok (elements_text (columns_of cat series) (first_element series.elements), cat)

-- what is read of a series
unfoldable pub a_reading : Series → Catalogue → Tried (List Entry)
a_reading series cat = do
  shape ← known (shape_of cat series.kind)
  Ok (reading shape (entries series.elements))

-- the entry of a number
unfoldable pub get_nth_element : List ℕ → ℕ → Catalogue → Tried Answered
get_nth_element key n cat = do
  series ← wanted key cat.series
  all ← a_reading series cat
  Ok (entries_text (columns_of cat series) (entry_number n all), cat)

-- the entries from one stamp to another, both included
unfoldable pub clip_series : List ℕ → ℤ → ℤ → Catalogue → Tried Answered
clip_series key from to cat = do
  series ← wanted key cat.series
  all ← a_reading series cat
  rows ← within_rows (clipped from to all)
  Ok (entries_text (columns_of cat series) rows, cat)

-- how many they are
unfoldable pub count_clip : List ℕ → ℤ → ℤ → Catalogue → Tried Answered
count_clip key from to cat = do
  series ← wanted key cat.series
  all ← a_reading series cat
  Ok (count_line (length (clipped from to all)), cat)

-- so many entries from a stamp on, or up to it
unfoldable pub clip_counted : List ℕ → ℤ → ℤ → Catalogue → Tried Answered
clip_counted key stamp n cat = do
  series ← wanted key cat.series
  all ← a_reading series cat
  Ok (entries_text (columns_of cat series) (counted stamp n all), cat)

-- a series as it is combined with another
abbrev pub a_side : Series → Shape → Catalogue → Side
a_side series shape cat = record {
  shape = shape;
  columns = length (columns_of cat series);
  elements =
      seen_elements series.elements;
}

-- two series as one, with the columns of both
unfoldable pub join_series : Junction → List ℕ → List ℕ → ℤ → ℤ → Catalogue → Tried Answered
join_series junction first second from to cat = do
  a ← wanted first cat.series
  b ← wanted second cat.series
  shape ← known (shape_of cat a.kind)
  other ← known (shape_of cat b.kind)
  rows ← joined junction (a_side a shape cat) (a_side b other cat) from to
  Ok (elements_text (columns_of cat a ++ columns_of cat b) rows, cat)

-- a regular series against itself so many on starts earlier
unfoldable pub lag_series : List ℕ → ℤ → Catalogue → Tried Answered
lag_series key by cat = do
  series ← wanted key cat.series
  shape ← known (shape_of cat series.kind)
  rows ← lagged shape by (seen_elements series.elements)
  Ok (elements_text (columns_of cat series) rows, cat)

-- What routines that go over the elements of a series answer, a row for each: running values of a column, and
-- expressions. Each tries its refusals in order.

-- for each element from one stamp to another what a function makes of a column's values in it and the n - 1 before it
-- there
unfoldable pub running_values : Function → List ℕ → List ℕ → ℕ → ℤ → ℤ → Catalogue → Tried Answered
running_values function text key n from to cat = do
  column ← read_column text
  series ← wanted key cat.series
  b ← bound (columns_of cat series) (item function column)
  es ← within_rows (within_range from to (seen_elements series.elements))
  Ok (folded_text (b.scale ∷ []) (running function b.column n es), cat)

-- for each element from one stamp to another the values of expressions over its own
unfoldable pub apply_exprs : List ℕ → List ℕ → ℤ → ℤ → Catalogue → Tried Answered
apply_exprs text key from to cat = do
  exprs ← read_exprs text
  series ← wanted key cat.series
  b ← binding (columns_of cat series) exprs
  es ← within_rows (within_range from to (seen_elements series.elements))
  rows ← applied_rows b es
  Ok (folded_text (scales_of b) rows, cat)

-- What the routines of rolling sets answer, composed of what single commands answer: each tries its refusals in order.

-- the number of windows that a set keeps, and its control; without a control the set is unknown
abbrev pub a_control : List ℕ → Catalogue → Tried (ℕ × Series)
a_control set cat = known (control_of set cat)

-- a grid, where elements can stand on one alone
abbrev pub grid_in : Shape → Tried GridPlan
grid_in shapes.Irregular = Err refusals.NotRegular
grid_in (shapes.Regular grid) = Ok grid

-- the grid of a control
unfoldable pub control_grid : Series → Catalogue → Tried GridPlan
control_grid control cat = do
  shape ← known (shape_of cat control.kind)
  grid_in shape

-- the catalogue without these windows of a set
abbrev pub without_windows : List ℕ → List ℕ → Catalogue → Catalogue
without_windows set js cat = fold (λ c j. without kinds.Series (window_key set j) c) cat js

-- the catalogue with a window that is to be made, or the same
unfoldable pub with_window : Bool → List ℕ → List ℕ → Catalogue → Tried Catalogue
with_window true key container cat = do
  answered ← create_irregular key container cat
  Ok answered.1
with_window false key container cat = Ok cat

-- a set's control is made: a regular series, whose key tells how many windows are kept
unfoldable pub roll_create : List ℕ → List ℕ → ℤ → List ℕ → ℕ → Catalogue → Tried Answered
roll_create set calendar origin container n cat = do
  plan ← a_calendar calendar cat
  there ← wanted container cat.containers
  free ← refused_if (is_some (control_of set cat)) refusals.NameTaken
  create_regular (control_key set n) calendar origin container cat

-- what is too old goes, and the element is put into its window
abbrev pub put_planned : List ℕ → List ℕ → Planned → ℤ → List Literal → Catalogue → Tried Answered
put_planned set container plan stamp literals cat = do
  made ← with_window plan.attach (window_key set plan.window) container (without_windows set plan.purge cat)
  put_no_dups (window_key set plan.window) stamp literals made

-- An element stands at its stamp in the window that holds it. What is too old goes first; all else is judged without
-- it.
unfoldable pub roll_put : List ℕ → ℤ → List Literal → Catalogue → Tried Answered
roll_put set stamp literals cat = do
  control ← a_control set cat
  grid ← control_grid control.1 cat
  row ← a_row (columns_of cat control.1) literals
  plan ← planned grid control.0 (live set control.1.container cat) stamp
  put_planned set control.1.container plan stamp literals cat

-- what is seen in the windows from one stamp to another
unfoldable pub roll_clip : List ℕ → ℤ → ℤ → Catalogue → Tried Answered
roll_clip set from to cat = do
  control ← a_control set cat
  grid ← control_grid control.1 cat
  rows ← within_rows (within_range from to (window_elements set control.1.container cat))
  Ok (elements_text (columns_of cat control.1) rows, cat)

-- the windows and the control go
unfoldable pub roll_drop : List ℕ → Catalogue → Tried Answered
roll_drop set cat = do
  control ← a_control set cat
  grid ← control_grid control.1 cat
  Ok (
    count_line (length (windows set control.1.container cat)),
    without kinds.Series (control_key set control.0) (without_windows set (live set control.1.container cat) cat),
  )
