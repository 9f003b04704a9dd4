-- How many pages series are charged, each by its elements.
use Rattle.std.specs.Prelude.{ℕ, ◌+◌, ◌/◌, List, map, sum, option_map, unwrap_or}
use Rattle.std.specs.FinMap.{entries, len}
use Rattle.ts_row.specs.declared.kind.Column.{Column}
use Rattle.ts_row.specs.Row.{width_of}
use Rattle.ts_space.specs.Charge.{irregular_charge, regular_charge}
use Rattle.ts_offset.specs.declared.shape.Shape.{Shape}
use Rattle.ts_offset.specs.declared.shape.Shape.TheVariants.{Irregular, Regular}
use Rattle.ts_offset.specs.Grid.{GridPlan, starts_before}
use Rattle.ts_model.specs.Catalogue.{Elements, Series, Catalogue, columns_of, shape_of, series_in}

-- how many elements a page of an irregular series holds: it has 4064 bytes for them, a row each with 9 bytes before it
abbrev pub page_elements : List Column → ℕ
page_elements columns = 4064 / (width_of columns + 9)

-- how many on starts a page of a regular series has cells for: a row each with a byte before it
abbrev pub page_cells : List Column → ℕ
page_cells columns = 4064 / (width_of columns + 1)

-- the offsets of elements that stand on a grid, in the order of their stamps
abbrev pub offsets_on : GridPlan → Elements → List ℕ
offsets_on grid elements = map (λ e. starts_before grid e.0) (entries elements)

-- how many pages elements of such columns are charged, by where they can stand
abbrev pub elements_charge : List Column → Shape → Elements → ℕ
elements_charge columns Irregular elements = irregular_charge (page_elements columns) (len elements)
elements_charge columns (Regular grid) elements = regular_charge (page_cells columns) (offsets_on grid elements)

-- how many pages a series is charged; none where its calendar is missing
abbrev pub series_charge : Catalogue → Series → ℕ
series_charge cat s =
    unwrap_or (option_map (λ shape. elements_charge (columns_of cat s) shape s.elements) (shape_of cat s.kind)) 0

-- how many pages the series of a container are charged together
abbrev pub container_charge : List ℕ → Catalogue → ℕ
container_charge container cat = sum (map (λ e. series_charge cat e.1) (series_in container cat))
