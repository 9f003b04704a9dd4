-- What a catalogue has, and its five kinds of objects alike.
use Rattle.std.specs.Prelude.{ℕ, ℤ, Bool, true, false, List, [], Option, Some, unwrap_or, option_map, option_and_then}
use Rattle.std.specs.Prelude.{map, sum, filter, bytes_eq}
use Rattle.std.specs.List.{list_any}
use Rattle.std.specs.Ordering.{nat_cmp, int_cmp}
use Rattle.std.specs.Cmp.Lexicographic.{slice_cmp}
use Rattle.std.specs.declared.cmp.Ordering.{Ordering}
use Rattle.std.specs.FinMap.{FinMap, empty, entries, get, values, insert, remove}
use Rattle.ts_row.specs.declared.kind.Column.{Column}
use Rattle.ts_row.specs.Row.{Heading, Row}
use Rattle.ts_pattern.specs.Patterns.{Plan}
use Rattle.ts_calendar.specs.Calendars.{CalendarPlan}
use Rattle.ts_calendar.specs.declared.text.PatternPart.{PatternPart}
use Rattle.ts_calendar.specs.declared.text.PatternPart.TheVariants.{Named as ByName, Own}
use Rattle.ts_calendar.specs.declared.text.CalendarText.{CalendarText}
use Rattle.ts_offset.specs.declared.shape.Shape.{Shape}
use Rattle.ts_offset.specs.declared.shape.Shape.TheVariants as shapes
use Rattle.ts_model.specs.declared.kind.Kind.{Kind}
use Rattle.ts_model.specs.declared.kind.Kind.TheVariants as kinds

-- The catalogue: what a store holds, as plain values under their names.

-- names and keys in the order of their bytes
abbrev pub name_cmp : List ℕ → List ℕ → Ordering
name_cmp = slice_cmp nat_cmp

-- values under their names, in the order of the names
abbrev pub Named : Type 0 → Type 0
Named X = FinMap name_cmp X

-- a container: the name of its row type, and the most pages that its series may be charged
pub record Container : Type 0 where
  pub row_type : List ℕ
  pub quota : ℕ

-- the elements of a series: a row at each of some stamps; `entries` lists them, the stamps strictly rising
abbrev pub Elements : Type 0
Elements = FinMap int_cmp Row

-- how the elements of a series lie: at any stamps, or at on starts of the calendar of a name, from an origin on
pub data SeriesKind : Type 0 where
  Irregular : SeriesKind
  Regular : List ℕ → ℤ → SeriesKind

-- they lie on a calendar
abbrev pub is_regular : SeriesKind → Bool
is_regular Irregular = false
is_regular (Regular calendar origin) = true

-- a series: the name of its container, how its elements lie, and these
pub record Series : Type 0 where
  pub container : List ℕ
  pub kind : SeriesKind
  pub elements : Elements

-- what a store holds: the format of its volume, and so many element pages; row types, patterns, calendars by their
-- texts, containers and series under their names and keys
pub record Catalogue : Type 0 where
  pub format : ℕ
  pub pages : ℕ
  pub row_types : Named Heading
  pub patterns : Named Plan
  pub calendars : Named CalendarText
  pub containers : Named Container
  pub series : Named Series

-- the number of the format of older volumes
abbrev pub old_format : ℕ
old_format = 1

-- the number of the newest format
abbrev pub newest_format : ℕ
newest_format = 2

-- a store of a format, with so many element pages, that holds nothing
abbrev pub empty_catalogue : ℕ → ℕ → Catalogue
empty_catalogue format pages = record {
  format = format;
  pages = pages;
  row_types = empty;
  patterns = empty;
  calendars =
      empty;
  containers = empty;
  series = empty;
}

-- the same catalogue in the newest format
abbrev pub in_newest_format : Catalogue → Catalogue
in_newest_format cat = record cat { format = newest_format }

-- the pattern that a calendar's text gives: the one of a name, or its own
abbrev pub pattern_of : Catalogue → PatternPart → Option Plan
pattern_of cat (ByName name) = get cat.patterns name
pattern_of cat (Own pattern) = Some pattern

-- the calendar of a text with this pattern
abbrev pub with_plan : CalendarText → Plan → CalendarPlan
with_plan c pattern = record { start = c.start; patt_start = c.patt_start; pattern = pattern }

-- the calendar that a text stands for; none where the pattern of that name is missing
abbrev pub calendar_of : Catalogue → CalendarText → Option CalendarPlan
calendar_of cat c = option_map (with_plan c) (pattern_of cat c.part)

-- the calendar of a name
abbrev pub calendar_named : Catalogue → List ℕ → Option CalendarPlan
calendar_named cat name = option_and_then (calendar_of cat) (get cat.calendars name)

-- where the elements of a series can stand: at all stamps, or at the on starts of a grid; none where the calendar of
-- that name is missing
abbrev pub shape_of : Catalogue → SeriesKind → Option Shape
shape_of cat Irregular = Some shapes.Irregular
shape_of cat (Regular calendar origin) =
    option_map (λ plan. shapes.Regular (record { calendar = plan; origin = origin })) (calendar_named cat calendar)

-- the row type of a series, that of its container
abbrev pub heading_of : Catalogue → Series → Option Heading
heading_of cat s = option_and_then (λ c. get cat.row_types c.row_type) (get cat.containers s.container)

-- the value columns of a series; none where the row type is missing
abbrev pub columns_of : Catalogue → Series → List Column
columns_of cat s = unwrap_or (option_map (λ heading. heading.columns) (heading_of cat s)) []

-- the quota of the container of a series; 0 where the container is missing
abbrev pub quota_of : Catalogue → Series → ℕ
quota_of cat s = unwrap_or (option_map (λ c. c.quota) (get cat.containers s.container)) 0

-- the series that stand in a container, with their keys, in the order of the keys
abbrev pub series_in : List ℕ → Catalogue → List (List ℕ × Series)
series_in container cat = filter (λ e. bytes_eq e.1.container container) (entries cat.series)

-- the sum of the quotas of all containers
abbrev pub quotas : Catalogue → ℕ
quotas cat = sum (map (λ c. c.quota) (values cat.containers))

-- What a catalogue has of each kind of definitions. A further kind is a case more in each.

-- what a name of a kind stands for
abbrev pub In : Kind → Type 0
In kinds.RowType = Heading
In kinds.Pattern = Plan
In kinds.Calendar = CalendarText
In kinds.Container = Container
In kinds.Series = Series

-- what a catalogue has of a kind, under its names
abbrev pub named : (kind : Kind) → Catalogue → Named (In kind)
named kinds.RowType cat = cat.row_types
named kinds.Pattern cat = cat.patterns
named kinds.Calendar cat = cat.calendars
named kinds.Container cat = cat.containers
named kinds.Series cat = cat.series

-- the catalogue with a name of a kind
abbrev pub with_named : (kind : Kind) → List ℕ → In kind → Catalogue → Catalogue
with_named kinds.RowType name value cat = record cat { row_types = insert cat.row_types name value }
with_named kinds.Pattern name value cat = record cat { patterns = insert cat.patterns name value }
with_named kinds.Calendar name value cat = record cat { calendars = insert cat.calendars name value }
with_named kinds.Container name value cat = record cat { containers = insert cat.containers name value }
with_named kinds.Series name value cat = record cat { series = insert cat.series name value }

-- the catalogue without one
abbrev pub without : Kind → List ℕ → Catalogue → Catalogue
without kinds.RowType name cat = record cat { row_types = remove cat.row_types name }
without kinds.Pattern name cat = record cat { patterns = remove cat.patterns name }
without kinds.Calendar name cat = record cat { calendars = remove cat.calendars name }
without kinds.Container name cat = record cat { containers = remove cat.containers name }
without kinds.Series name cat = record cat { series = remove cat.series name }

-- the text gives a pattern by this name
abbrev pub is_named : List ℕ → PatternPart → Bool
is_named pattern (ByName name) = bytes_eq name pattern
is_named pattern (Own plan) = false

-- a calendar was made by the pattern's name
abbrev pub has_calendar : List ℕ → Catalogue → Bool
has_calendar pattern cat = list_any (λ c. is_named pattern c.part) (values cat.calendars)

-- a container has the row type
abbrev pub has_container : List ℕ → Catalogue → Bool
has_container row_type cat = list_any (λ c. bytes_eq c.row_type row_type) (values cat.containers)

-- a series stands in the container
abbrev pub has_series : List ℕ → Catalogue → Bool
has_series container cat = list_any (λ s. bytes_eq s.container container) (values cat.series)

-- the elements of a series lie on the calendar of this name
abbrev pub is_on_calendar : List ℕ → SeriesKind → Bool
is_on_calendar calendar Irregular = false
is_on_calendar calendar (Regular name origin) = bytes_eq name calendar

-- a regular series has the calendar
abbrev pub has_regular : List ℕ → Catalogue → Bool
has_regular calendar cat = list_any (λ s. is_on_calendar calendar s.kind) (values cat.series)

-- something in the catalogue refers to what a name of a kind stands for
abbrev pub is_used : Kind → List ℕ → Catalogue → Bool
is_used kinds.RowType name cat = has_container name cat
is_used kinds.Pattern name cat = has_calendar name cat
is_used kinds.Calendar name cat = has_regular name cat
is_used kinds.Container name cat = has_series name cat
is_used kinds.Series name cat = false

-- the definitions of a kind have no pages of elements
abbrev pub HasNoPages : Kind → Type 0
HasNoPages kinds.RowType = Unit {0}
HasNoPages kinds.Pattern = Unit {0}
HasNoPages kinds.Calendar = Unit {0}
HasNoPages kinds.Container = Unit {0}
HasNoPages kinds.Series = ⊥
