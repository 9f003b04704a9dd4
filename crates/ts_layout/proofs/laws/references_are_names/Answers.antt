use Rattle.ts_layout.proofs.LookupLemmas.{pattern_of_calendar, calendar_stands, row_type_of_container, container_of_series, grid_found, shape_found, columns_of_series}
use Rattle.ts_layout.proofs.laws.references_are_names.Goals as goal

pub returns : goal.returns
returns c = record {
  pattern = pattern_of_calendar;
  calendar = calendar_stands;
  row_type = row_type_of_container;
  container = container_of_series;
  grid = grid_found;
  shape = shape_found;
  columns = columns_of_series;
}
