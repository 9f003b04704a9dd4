-- The definitions as a format and five tables, one a kind.
use Rattle.std.specs.Prelude.{◌≡◌, ℕ, List, map, Option, Some, option_and_then}
use Rattle.ts_model.specs.declared.kind.Kind.{Kind}
use Rattle.ts_model.specs.declared.kind.Kind.TheVariants as kinds
use Rattle.ts_model.specs.declared.def.Def.{Def}
use Rattle.ts_model.specs.Definitions.{Tables, at_slot, kind_of, name_of, from_def, limit, IsTable, IsFormat}
use Rattle.ts_model.specs.Table.{Slots}

-- the definitions of a format that five tables have, and the kinds that they have room for
abbrev pub tables_of : ℕ → Slots → Slots → Slots → Slots → Slots → Tables
tables_of format row_types patterns calendars containers series = record {
  definitions = record {
    format = format;
    row_types = map (option_and_then (from_def kinds.RowType)) row_types.slots;
    patterns = map (option_and_then (from_def kinds.Pattern)) patterns.slots;
    calendars = map (option_and_then (from_def kinds.Calendar)) calendars.slots;
    containers = map (option_and_then (from_def kinds.Container)) containers.slots;
    series = map (option_and_then (from_def kinds.Series)) series.slots;
  };
  room = record {
    row_types = row_types.room;
    patterns = patterns.room;
    calendars = calendars.room;
    containers = containers.room;
    series = series.room;
  };
}

-- each definition in a table is of one kind
abbrev pub AreOfKind : Kind → List (Option Def) → Type 0
AreOfKind kind table = (i : ℕ) (def : Def) → at_slot i table ≡ Some def → kind_of def ≡ kind

-- the table of a kind: as many slots as the kind has, no name twice, each definition of the kind
pub record IsPart (kind : Kind) (table : Slots) : Type 0 where
  pub count : table.count ≡ limit kind
  pub kinds : AreOfKind kind table.slots
  pub rules : IsTable name_of (limit kind) table.slots

-- a format, and the tables of the five kinds
pub record AreParts (number : ℕ) (row_types patterns calendars containers series : Slots) : Type 0 where
  pub format : IsFormat number
  pub of_row_types : IsPart kinds.RowType row_types
  pub of_patterns : IsPart kinds.Pattern patterns
  pub of_calendars : IsPart kinds.Calendar calendars
  pub of_containers : IsPart kinds.Container containers
  pub of_series : IsPart kinds.Series series
