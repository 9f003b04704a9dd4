-- The texts of the statements of a catalogue, in their order.
use Rattle.std.specs.Prelude.{ℕ, Bool, if◌then◌else◌, List, [], ◌∷◌, ◌++◌, map}
use Rattle.std.specs.List.{flat_map}
use Rattle.std.specs.FinMap.{entries}
use Rattle.ts_row.specs.declared.kind.Column.{Column}
use Rattle.ts_row.specs.Row.{Element}
use Rattle.ts_model.specs.Catalogue.{SeriesKind, Irregular, Regular, Series, Catalogue, columns_of}
use Rattle.ts_dump_texts.specs.Texts.{row_type_text, pattern_text, calendar_text, container_text, irregular_text}
use Rattle.ts_dump_texts.specs.Texts.{regular_text, element_text, hiding_text}

-- a series
abbrev pub text_made_as : SeriesKind → List ℕ → List ℕ → List ℕ
text_made_as Irregular key container = irregular_text key container
text_made_as (Regular calendar origin) key container = regular_text key calendar origin container

-- all definitions
abbrev pub texts_of_definitions : Catalogue → List (List ℕ)
texts_of_definitions cat =
    map (λ e. row_type_text e.0 e.1) (entries cat.row_types)
    ++ (map (λ e. pattern_text e.0 e.1) (entries cat.patterns)
    ++ (map (λ e. calendar_text e.0 e.1) (entries cat.calendars)
    ++ (map (λ e. container_text e.0 e.1.row_type e.1.quota) (entries cat.containers)
    ++ map (λ e. text_made_as e.1.kind e.0 e.1.container) (entries cat.series))))

-- behind an element that is hidden, that it is
abbrev pub texts_of_hiding : Bool → List ℕ → Element → List (List ℕ)
texts_of_hiding hidden key e = if hidden then hiding_text key e.0 ∷ [] else []

-- an element
abbrev pub texts_of_element : List ℕ → List Column → Element → List (List ℕ)
texts_of_element key columns e = element_text key e.0 columns e.1 ∷ texts_of_hiding e.1.hidden key e

-- the elements of a series
abbrev pub texts_of_series : Catalogue → List ℕ × Series → List (List ℕ)
texts_of_series cat e = flat_map (texts_of_element e.0 (columns_of cat e.1)) (entries e.1.elements)

-- all texts of a catalogue
abbrev pub texts_of : Catalogue → List (List ℕ)
texts_of cat = texts_of_definitions cat ++ flat_map (texts_of_series cat) (entries cat.series)
