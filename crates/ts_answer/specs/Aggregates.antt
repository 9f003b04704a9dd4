-- What routines that fold the elements of series by an aggregate list answer: each tries its refusals in order.
use Rattle.std.specs.Prelude.{ℕ, ℤ, List, [], ◌∷◌, map, unwrap_or, option_map, Ok}
use Rattle.std.specs.FinMap.{entries, get}
use Rattle.ts_row.specs.declared.kind.Column.{Column}
use Rattle.ts_row.specs.Row.{Row}
use Rattle.ts_sheets.specs.Stamped.{within_range}
use Rattle.ts_base.specs.Answer.{within_rows}
use Rattle.ts_entry.specs.Entry.{by_interval}
use Rattle.ts_expr.specs.Aggregates.{read_list, Binding, binding, folded_row}
use Rattle.ts_model.specs.Catalogue.{Elements, Container, Catalogue, columns_of, series_in}
use Rattle.ts_answer.specs.Reply.{folded_text, series_folded_text, Tried, Answered, wanted, a_calendar}
unfoldable use Rattle.ts_answer.specs.Reply.{◌>>=◌}
use Rattle.ts_answer.specs.Elements.{seen_elements}

-- the digits after the point of what each item makes
abbrev pub scales_of : Binding → List ℕ
scales_of b = map (λ i. i.scale) b.items

-- what a list makes of the elements from one stamp to another, both included
abbrev pub folded_range : Binding → ℤ → ℤ → Elements → Row
folded_range b from to elements = folded_row b.items (map (λ e. e.1) (within_range from to (entries elements)))

-- the elements from one stamp to another as one row, which has the first stamp
unfoldable pub aggregate_range : List ℕ → List ℕ → ℤ → ℤ → Catalogue → Tried Answered
aggregate_range text key from to cat = do
  items ← read_list text
  series ← wanted key cat.series
  b ← binding (columns_of cat series) items
  Ok (folded_text (scales_of b) ((from, folded_range b from to series.elements) ∷ []), cat)

-- a row for each on interval that starts from one stamp to another and holds an element that isn't hidden
unfoldable pub aggregate_by : List ℕ → List ℕ → List ℕ → ℤ → ℤ → Catalogue → Tried Answered
aggregate_by text calendar key from to cat = do
  items ← read_list text
  plan ← a_calendar calendar cat
  series ← wanted key cat.series
  b ← binding (columns_of cat series) items
  rows ← within_rows (by_interval (folded_row b.items) plan from to (seen_elements series.elements))
  Ok (folded_text (scales_of b) rows, cat)

-- the value columns of the series of a container; none where the row type is missing
abbrev pub columns_in : Catalogue → Container → List Column
columns_in cat c = unwrap_or (option_map (λ heading. heading.columns) (get cat.row_types c.row_type)) []

-- a row for each series of a container, in the order of the keys
unfoldable pub aggregate_all : List ℕ → List ℕ → ℤ → ℤ → Catalogue → Tried Answered
aggregate_all text container from to cat = do
  items ← read_list text
  there ← wanted container cat.containers
  b ← binding (columns_in cat there) items
  Ok (
    series_folded_text (scales_of b) (map (λ s. (s.0, folded_range b from to s.1.elements))
        (series_in container cat)),
    cat,
  )
