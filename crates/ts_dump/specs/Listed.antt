-- The texts of definitions by their slots.
use Rattle.std.specs.Prelude.{ℕ, Option, Some, None, List, [], ◌∷◌, ◌++◌, unwrap_or}
use Rattle.std.specs.Option.{option_map, option_and_then}
use Rattle.std.specs.List.{flat_map}
use Rattle.std.specs.FinMap.{values}
use Rattle.ts_calendar.specs.Calendars.{CalendarPlan}
use Rattle.ts_calendar.specs.declared.text.CalendarText.{CalendarText}
use Rattle.ts_model.specs.declared.kind.Kind.{Kind}
use Rattle.ts_model.specs.declared.kind.Kind.TheVariants as kinds
use Rattle.ts_model.specs.declared.def.Def.{Def}
use Rattle.ts_model.specs.declared.def.Def.TheVariants as defs
use Rattle.ts_model.specs.Definitions.{Definitions, name_of, slots, slots_by_name}
use Rattle.ts_layout.specs.Meaning.{def_at, name_at, text_of, kind_in}
use Rattle.ts_dump_texts.specs.Texts.{row_type_text, pattern_text, calendar_text, container_text}
use Rattle.ts_dump_texts.specs.OfCatalogue.{text_made_as}

-- the name of what stands in a slot of a kind; an empty slot has none
abbrev pub name_in : Kind → ℕ → Definitions → List ℕ
name_in kind slot d = unwrap_or (option_map name_of (def_at kind slot d)) []

-- a calendar as its text, with the name of the pattern in that slot, or its own
abbrev pub calendar_as : Definitions → List ℕ → CalendarPlan → Option ℕ → CalendarText
calendar_as d name plan by = text_of d (record { name = name; calendar = plan; by = by })

-- the text of a definition, with the names of what it refers to
abbrev pub text_of_def : Definitions → Def → List ℕ
text_of_def d (defs.RowType name heading) = row_type_text name heading
text_of_def d (defs.Pattern name plan) = pattern_text name plan
text_of_def d (defs.Calendar name plan by) = calendar_text name (calendar_as d name plan by)
text_of_def d (defs.Container name row_type quota) =
    container_text name (name_at (λ r. r.name) row_type d.row_types) quota
text_of_def d (defs.Series key container regular) =
    text_made_as (kind_in d regular) key (name_at (λ c. c.name) container d.containers)

-- the text of what stands in a slot, as a list of one; an empty slot has none
abbrev pub text_if : Definitions → Option Def → List (List ℕ)
text_if d None = []
text_if d (Some def) = text_of_def d def ∷ []

abbrev pub text_at : Kind → Definitions → ℕ → List (List ℕ)
text_at kind d slot = text_if d (def_at kind slot d)

-- the texts of a kind, in the order of the names
abbrev pub texts_of_kind : Kind → Definitions → List (List ℕ)
texts_of_kind kind d = flat_map (text_at kind d) (values (slots_by_name (slots kind d)))

-- the texts of all definitions
abbrev pub definition_texts : Definitions → List (List ℕ)
definition_texts d =
    texts_of_kind kinds.RowType d
    ++ (texts_of_kind kinds.Pattern d
    ++ (texts_of_kind kinds.Calendar d ++ (texts_of_kind kinds.Container d ++ texts_of_kind kinds.Series d)))

-- the slot of the row type of a container
abbrev pub row_type_of : Def → Option ℕ
row_type_of (defs.Container name row_type quota) = Some row_type
row_type_of other = None

-- the slot of the pattern by whose name a calendar was made
abbrev pub pattern_of : Def → Option ℕ
pattern_of (defs.Calendar name plan by) = by
pattern_of other = None

-- the slot of the container of a series
abbrev pub container_of : Def → Option ℕ
container_of (defs.Series key container regular) = Some container
container_of other = None

-- the slot of the calendar of a regular series
abbrev pub calendar_of : Def → Option ℕ
calendar_of (defs.Series key container regular) = option_map (λ r. r.0) regular
calendar_of other = None

-- what a slot of a kind refers to, if something stands there
abbrev pub found_by : Kind → (Def → Option ℕ) → Definitions → ℕ → Option ℕ
found_by kind refers d slot = option_and_then refers (def_at kind slot d)

-- the slots of the container, the row type, the calendar and the pattern of the series in a slot
abbrev pub container_slot : Definitions → ℕ → Option ℕ
container_slot d series = found_by kinds.Series container_of d series

abbrev pub row_type_slot : Definitions → ℕ → Option ℕ
row_type_slot d series = option_and_then (found_by kinds.Container row_type_of d) (container_slot d series)

abbrev pub calendar_slot : Definitions → ℕ → Option ℕ
calendar_slot d series = found_by kinds.Series calendar_of d series

abbrev pub pattern_slot : Definitions → ℕ → Option ℕ
pattern_slot d series = option_and_then (found_by kinds.Calendar pattern_of d) (calendar_slot d series)

-- the text of what stands in a slot, if one is given
abbrev pub text_in : Kind → Definitions → Option ℕ → List (List ℕ)
text_in kind d None = []
text_in kind d (Some slot) = text_at kind d slot

-- the texts of the definitions that the series in a slot stands on, and its own
abbrev pub texts_under : Definitions → ℕ → List (List ℕ)
texts_under d series =
    text_in kinds.RowType d (row_type_slot d series)
    ++ (text_in kinds.Pattern d (pattern_slot d series)
    ++ (text_in kinds.Calendar d (calendar_slot d series)
    ++ (text_in kinds.Container d (container_slot d series) ++ text_at kinds.Series d series)))
