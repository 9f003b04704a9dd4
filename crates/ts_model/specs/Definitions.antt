-- The definitions of row types, patterns, calendars, containers and series, in numbered slots, and the format of their
-- volume.
use Rattle.std.specs.Prelude.{◌≡◌, ℕ, ℤ, ◌+◌, ◌<◌, ◌⊎◌, Bool, true, false, List, [], ◌∷◌, length, map, replicate}
use Rattle.std.specs.Prelude.{slice_index_or, slice_set, position, is_none, Option, Some, None, option_map}
use Rattle.std.specs.Prelude.{option_and_then, bytes_eq, Contains}
use Rattle.std.specs.FinMap.{from_entries}
use Rattle.ts_row.specs.Row.{Heading}
use Rattle.ts_pattern.specs.Patterns.{Plan}
use Rattle.ts_calendar.specs.Calendars.{CalendarPlan}
use Rattle.ts_model.specs.Catalogue.{Named, old_format, newest_format}
use Rattle.ts_model.specs.declared.kind.Kind.{Kind}
use Rattle.ts_model.specs.declared.kind.Kind.TheVariants as kinds
use Rattle.ts_model.specs.declared.def.Def.{Def}
use Rattle.ts_model.specs.declared.def.Def.TheVariants as defs

-- a row type: its name, and its columns
pub record RowTypeDef : Type 0 where
  pub name : List ℕ
  pub heading : Heading

-- a pattern: its name, its unit and its runs
pub record PatternDef : Type 0 where
  pub name : List ℕ
  pub pattern : Plan

-- a calendar: its name, its starts and its pattern, and the slot of the pattern by whose name it was made, if it was
pub record CalendarDef : Type 0 where
  pub name : List ℕ
  pub calendar : CalendarPlan
  pub by : Option ℕ

-- a container: its name, the slot of its row type, and its quota
pub record ContainerDef : Type 0 where
  pub name : List ℕ
  pub row_type : ℕ
  pub quota : ℕ

-- a series: its key, the slot of its container, and where it is regular the slot of its calendar and its origin
pub record SeriesDef : Type 0 where
  pub key : List ℕ
  pub container : ℕ
  pub regular : Option (ℕ × ℤ)

-- the format of the volume, and the slots of each kind, each empty or filled with a definition
pub record Definitions : Type 0 where
  pub format : ℕ
  pub row_types : List (Option RowTypeDef)
  pub patterns : List (Option PatternDef)
  pub calendars : List (Option CalendarDef)
  pub containers : List (Option ContainerDef)
  pub series : List (Option SeriesDef)

-- for which kinds an empty slot can be filled without taking memory
pub record Room : Type 0 where
  pub row_types : Bool
  pub patterns : Bool
  pub calendars : Bool
  pub containers : Bool
  pub series : Bool

-- what contracts see of the definitions that are kept: their slots, and for which kinds there is room
pub record Tables : Type 0 where
  pub definitions : Definitions
  pub room : Room

-- a format that a volume may have
abbrev pub IsFormat : ℕ → Type 0
IsFormat format = (format ≡ old_format) ⊎ (format ≡ newest_format)

-- how many slots there are for row types, for patterns, for calendars, for containers and for series
abbrev pub row_type_slots : ℕ
row_type_slots = 64

abbrev pub pattern_slots : ℕ
pattern_slots = 256

abbrev pub calendar_slots : ℕ
calendar_slots = 256

abbrev pub container_slots : ℕ
container_slots = 64

abbrev pub series_slots : ℕ
series_slots = 4096

-- how many slots a kind has
abbrev pub limit : Kind → ℕ
limit kinds.RowType = row_type_slots
limit kinds.Pattern = pattern_slots
limit kinds.Calendar = calendar_slots
limit kinds.Container = container_slots
limit kinds.Series = series_slots

-- what a definition defines
abbrev pub kind_of : Def → Kind
kind_of (defs.RowType name kind) = kinds.RowType
kind_of (defs.Pattern name pattern) = kinds.Pattern
kind_of (defs.Calendar name calendar by) = kinds.Calendar
kind_of (defs.Container name row_type quota) = kinds.Container
kind_of (defs.Series key container regular) = kinds.Series

-- its name or its key
abbrev pub name_of : Def → List ℕ
name_of (defs.RowType name kind) = name
name_of (defs.Pattern name pattern) = name
name_of (defs.Calendar name calendar by) = name
name_of (defs.Container name row_type quota) = name
name_of (defs.Series key container regular) = key

-- the definitions of a kind
abbrev pub KindDef : Kind → Type 0
KindDef kinds.RowType = RowTypeDef
KindDef kinds.Pattern = PatternDef
KindDef kinds.Calendar = CalendarDef
KindDef kinds.Container = ContainerDef
KindDef kinds.Series = SeriesDef

-- a row type as a definition of any kind
abbrev pub of_row_type : RowTypeDef → Def
of_row_type r = defs.RowType r.name r.heading

-- a pattern as one
abbrev pub of_pattern : PatternDef → Def
of_pattern p = defs.Pattern p.name p.pattern

-- a calendar as one
abbrev pub of_calendar : CalendarDef → Def
of_calendar c = defs.Calendar c.name c.calendar c.by

-- a container as one
abbrev pub of_container : ContainerDef → Def
of_container c = defs.Container c.name c.row_type c.quota

-- a series as one
abbrev pub of_series : SeriesDef → Def
of_series s = defs.Series s.key s.container s.regular

-- the same of each kind
abbrev pub to_def : (kind : Kind) → KindDef kind → Def
to_def kinds.RowType = of_row_type
to_def kinds.Pattern = of_pattern
to_def kinds.Calendar = of_calendar
to_def kinds.Container = of_container
to_def kinds.Series = of_series

-- a definition as one of the kind, if it is one
abbrev pub from_def : (kind : Kind) → Def → Option (KindDef kind)
from_def kinds.RowType (defs.RowType name kind) = Some (record { name = name; heading = kind })
from_def kinds.RowType other = None
from_def kinds.Pattern (defs.Pattern name pattern) = Some (record { name = name; pattern = pattern })
from_def kinds.Pattern other = None
from_def kinds.Calendar (defs.Calendar name calendar by) = Some (record { name = name; calendar = calendar; by = by })
from_def kinds.Calendar other = None
from_def kinds.Container (defs.Container name row_type quota) =
    Some (record { name = name; row_type = row_type; quota = quota })
from_def kinds.Container other = None
from_def kinds.Series (defs.Series key container regular) =
    Some (record { key = key; container = container; regular = regular })
from_def kinds.Series other = None

-- the table of a kind: its slots
abbrev pub table_of : (kind : Kind) → Definitions → List (Option (KindDef kind))
table_of kinds.RowType d = d.row_types
table_of kinds.Pattern d = d.patterns
table_of kinds.Calendar d = d.calendars
table_of kinds.Container d = d.containers
table_of kinds.Series d = d.series

-- the definitions with another table of a kind
abbrev pub with_table : (kind : Kind) → List (Option (KindDef kind)) → Definitions → Definitions
with_table kinds.RowType table d = record d { row_types = table }
with_table kinds.Pattern table d = record d { patterns = table }
with_table kinds.Calendar table d = record d { calendars = table }
with_table kinds.Container table d = record d { containers = table }
with_table kinds.Series table d = record d { series = table }

-- the definitions in another format
abbrev pub with_format : ℕ → Definitions → Definitions
with_format format d = record d { format = format }

-- the name, or the key, of a definition of a kind
abbrev pub name_in : (kind : Kind) → KindDef kind → List ℕ
name_in kind a = name_of (to_def kind a)

-- the slots of a kind, as definitions of any
abbrev pub slots : Kind → Definitions → List (Option Def)
slots kind d = map (option_map (to_def kind)) (table_of kind d)

-- what stands in a slot
abbrev pub at_slot : {A : Type 0} → ℕ → List (Option A) → Option A
at_slot slot table = slice_index_or table slot None

-- what stands in a slot of a kind
abbrev pub def_at : Kind → ℕ → Definitions → Option Def
def_at kind slot d = at_slot slot (slots kind d)

-- the slot of the pattern by whose name a calendar was made, as a list of one or none
abbrev pub pattern_reference : Option ℕ → List (Kind × ℕ)
pattern_reference None = []
pattern_reference (Some slot) = (kinds.Pattern, slot) ∷ []

-- the slot of the calendar of a regular series, as a list of one or none
abbrev pub calendar_reference : Option (ℕ × ℤ) → List (Kind × ℕ)
calendar_reference None = []
calendar_reference (Some regular) = (kinds.Calendar, regular.0) ∷ []

-- what a definition refers to: a calendar that was made by a pattern's name to the slot of that pattern, a container to
-- the slot of its row type, a series to that of its container and, where it is regular, to that of its calendar
abbrev pub references : Def → List (Kind × ℕ)
references (defs.RowType name kind) = []
references (defs.Pattern name pattern) = []
references (defs.Calendar name calendar by) = pattern_reference by
references (defs.Container name row_type quota) = (kinds.RowType, row_type) ∷ []
references (defs.Series key container regular) = (kinds.Container, container) ∷ calendar_reference regular

-- a definition refers to what stands in a slot of a kind
abbrev pub Refers : Def → Kind → ℕ → Type 0
Refers def kind slot = let target : Kind × ℕ = (kind, slot) in Contains (references def) target

-- a definition of some kind refers to it
abbrev pub IsUsedBy : Kind → Kind → ℕ → Definitions → Type 0
IsUsedBy user kind slot d = (i : ℕ) × (def : Def) × (i < limit user) × (def_at user i d ≡ Some def)
    × Refers def kind slot

-- some definition refers to it
abbrev pub IsUsed : Kind → ℕ → Definitions → Type 0
IsUsed kind slot d = (user : Kind) × IsUsedBy user kind slot d

-- the definitions with this one, or none, in a slot of a kind, and all other slots as they were
abbrev pub with_slot : Kind → ℕ → Option Def → Definitions → Definitions
with_slot kind slot def d = with_table kind (slice_set (table_of kind d) slot (option_and_then (from_def kind) def)) d

-- whether a slot of a kind can be filled without taking memory
abbrev pub has_room : Kind → Room → Bool
has_room kinds.RowType room = room.row_types
has_room kinds.Pattern room = room.patterns
has_room kinds.Calendar room = room.calendars
has_room kinds.Container room = room.containers
has_room kinds.Series room = room.series

-- room for a kind, and for the others as before
abbrev pub with_room : Kind → Room → Room
with_room kinds.RowType room = record room { row_types = true }
with_room kinds.Pattern room = record room { patterns = true }
with_room kinds.Calendar room = record room { calendars = true }
with_room kinds.Container room = record room { containers = true }
with_room kinds.Series room = record room { series = true }

-- nothing defined, in the newest format
abbrev pub no_definitions : Definitions
no_definitions = record {
  format = newest_format;
  row_types = replicate row_type_slots None;
  patterns = replicate pattern_slots None;
  calendars = replicate calendar_slots None;
  containers = replicate container_slots None;
  series = replicate series_slots None;
}

-- the same without room
abbrev pub no_tables : Tables
no_tables = record {
  definitions = no_definitions;
  room = record {
    row_types = false;
    patterns = false;
    calendars =
        false;
    containers = false;
    series = false;
  };
}

-- a slot is filled with what has this name
abbrev pub has_name : List ℕ → Option Def → Bool
has_name name None = false
has_name name (Some def) = bytes_eq name (name_of def)

-- the slot that has this name
abbrev pub slot_of : List ℕ → List (Option Def) → Option ℕ
slot_of name table = position (has_name name) table

-- the lowest empty slot
abbrev pub vacant_slot : {A : Type 0} → List (Option A) → Option ℕ
vacant_slot table = position is_none table

-- no other slot has the name
abbrev pub IsNewName : List ℕ → ℕ → List (Option Def) → Type 0
IsNewName name slot table = (slot_of name table ≡ None) ⊎ (slot_of name table ≡ Some slot)

-- what the filled slots of a table have, from slot number `first` on: a name, and what a function gives of slot and
-- definition
abbrev pub filled_from : {A X : Type 0} → (A → List ℕ) → (ℕ → A → X) → ℕ → List (Option A) → List (List ℕ × X)
filled_from name value first [] = []
filled_from name value first (None ∷ rest) = filled_from name value (first + 1) rest
filled_from name value first (Some def ∷ rest) = (name def, value first def) ∷ filled_from name value (first + 1) rest

-- the filled slots under their names, each as what a function gives of slot and definition
abbrev pub by_name : {A X : Type 0} → (A → List ℕ) → (ℕ → A → X) → List (Option A) → Named X
by_name name value table = from_entries (filled_from name value 0 table)

-- the numbers of the filled slots under their names
abbrev pub slots_by_name : List (Option Def) → Named ℕ
slots_by_name table = by_name name_of (λ slot def. slot) table

-- so many slots, and no two of them have one name
pub record IsTable {A : Type 0} (name : A → List ℕ) (count : ℕ) (table : List (Option A)) : Type 0 where
  pub size : length table ≡ count
  pub apart : (i j : ℕ) (a b : A) → at_slot i table ≡ Some a → at_slot j table ≡ Some b → name a ≡ name b → i ≡ j

-- the rules that all definitions keep
pub record IsDefinitions (d : Definitions) : Type 0 where
  pub format : IsFormat d.format
  pub row_types : IsTable (λ r. r.name) row_type_slots d.row_types
  pub patterns : IsTable (λ p. p.name) pattern_slots d.patterns
  pub calendars : IsTable (λ c. c.name) calendar_slots d.calendars
  pub containers : IsTable (λ c. c.name) container_slots d.containers
  pub series : IsTable (λ s. s.key) series_slots d.series
