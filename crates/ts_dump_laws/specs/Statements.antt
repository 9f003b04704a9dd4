-- The statements that a catalogue is made of, in the order in which they are carried out: its row types, patterns,
-- calendars, containers and series, each in the order of their names, then the elements of each series.
use Rattle.std.specs.Prelude.{ℕ, zero, suc, pos, Bool, if◌then◌else◌, List, [], ◌∷◌, ◌++◌, map}
use Rattle.std.specs.List.{flat_map}
use Rattle.std.specs.FinMap.{empty, entries, from_entries}
use Rattle.ts_row.specs.declared.kind.Column.{Column}
use Rattle.ts_row.specs.Row.{Heading, Element, Row}
use Rattle.ts_row.specs.declared.value.Literal.{Literal}
use Rattle.ts_pattern.specs.Patterns.{Plan, printed_plan}
use Rattle.ts_calendar.specs.declared.text.CalendarText.{CalendarText}
use Rattle.ts_calendar.specs.Calendars.{printed_calendar}
use Rattle.ts_command.specs.declared.command.Command.{Command}
use Rattle.ts_command.specs.declared.command.Command.TheVariants as commands
use Rattle.ts_model.specs.Catalogue.{Container, SeriesKind, Irregular, Regular, Series, Catalogue, columns_of}

-- a row type
abbrev pub row_type_statement : List ℕ × Heading → Command
row_type_statement e = commands.CreateRowType e.0 e.1.stamp e.1.columns

-- a pattern, by its text
abbrev pub pattern_statement : List ℕ × Plan → Command
pattern_statement e = commands.CreatePattern e.0 (printed_plan e.1)

-- a calendar, by its text: with the name of its pattern, or with the pattern inside, as it was made
abbrev pub calendar_statement : List ℕ × CalendarText → Command
calendar_statement e = commands.CreateCalendar e.0 (printed_calendar e.1)

-- a container, with the name of its row type and its quota
abbrev pub container_statement : List ℕ × Container → Command
container_statement e = commands.TSContainerCreate e.0 e.1.row_type (pos e.1.quota)

-- a series without its elements; a regular one with its calendar and its origin
abbrev pub made_as : SeriesKind → List ℕ → List ℕ → Command
made_as Irregular key container = commands.TSCreateIrr key container
made_as (Regular calendar origin) key container = commands.TSCreate key calendar origin container

abbrev pub series_statement : List ℕ × Series → Command
series_statement e = made_as e.1.kind e.0 e.1.container

-- all definitions
abbrev pub definitions_of : Catalogue → List Command
definitions_of cat =
    map row_type_statement (entries cat.row_types)
    ++ (map pattern_statement (entries cat.patterns)
    ++ (map calendar_statement (entries cat.calendars)
    ++ (map container_statement (entries cat.containers)
    ++ map series_statement (entries cat.series))))

-- behind an element that is hidden, that it is
abbrev pub hiding : Bool → List ℕ → Element → List Command
hiding hidden key e = if hidden then commands.HideElem key e.0 ∷ [] else []

-- the literals of a row, by its columns
abbrev pub Writing : Type 0
Writing = List Column → Row → List Literal

-- an element: its values at its stamp, and that it is hidden where it is
abbrev pub element_statements : Writing → List ℕ → List Column → Element → List Command
element_statements written key columns e = commands.InsElem key e.0 (written columns e.1) ∷ hiding e.1.hidden key e

-- the elements of a series, in rising stamps
abbrev pub elements_of_series : Writing → Catalogue → List ℕ × Series → List Command
elements_of_series written cat e = flat_map (element_statements written e.0 (columns_of cat e.1)) (entries e.1.elements)

-- the elements of all series
abbrev pub elements_of : Writing → Catalogue → List Command
elements_of written cat = flat_map (elements_of_series written cat) (entries cat.series)

-- all statements of a catalogue, whose rows are written so
abbrev pub statements_of : Writing → Catalogue → List Command
statements_of written cat = definitions_of cat ++ elements_of written cat

-- a series without its elements
abbrev pub emptied : Series → Series
emptied s = record s { elements = empty }

-- what a function gives of each value, under the same names
abbrev pub each_as : {X Y : Type 0} → (X → Y) → List (List ℕ × X) → List (List ℕ × Y)
each_as f es = map (λ e. (e.0, f e.1)) es

-- the catalogue without elements: its series have none
abbrev pub without_elements : Catalogue → Catalogue
without_elements cat = record cat { series = from_entries (each_as emptied (entries cat.series)) }

-- Statements in transactions of 32: those that are left, where so many more have a place in the one that is open.
abbrev pub in_groups : ℕ → List Command → List Command
in_groups room [] = commands.Commit ∷ []
in_groups zero (command ∷ more) = commands.Commit ∷ commands.Begin ∷ command ∷ in_groups 31 more
in_groups (suc room) (command ∷ more) = command ∷ in_groups room more

-- statements in transactions of 32; none where there are no statements
abbrev pub in_transactions : List Command → List Command
in_transactions [] = []
in_transactions (command ∷ more) = commands.Begin ∷ command ∷ in_groups 31 more
