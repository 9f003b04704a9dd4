-- What follows from the limits of definitions.
use Rattle.std.proofs.Common.{ℕ, ℤ, ◌≤◌, List, length, IsTrue, arith, ◌≡◌, ◌<◌, Option, Some, subst, None, sym, ap}
use Rattle.std.specs.Option.{option_map, option_and_then}
use Rattle.std.proofs.lemmas.Bool.Decides.{nat_tests}
use Rattle.std.proofs.lemmas.List.{get_or_past}
use Rattle.ts_base.specs.Name.{is_key}
use Rattle.ts_row.specs.Row.{Heading}
use Rattle.ts_pattern.specs.Patterns.{Plan}
use Rattle.ts_calendar.specs.Calendars.{CalendarPlan}
use Rattle.ts_model.specs.declared.def.Def.{Def}
use Rattle.ts_model.specs.declared.kind.Kind.{Kind}
use Rattle.ts_model.specs.Definitions.{kind_of, to_def, from_def, Definitions, KindDef, SeriesDef, IsDefinitions}
use Rattle.ts_model.proofs.PartsLemmas.{back}
use Rattle.ts_model.specs.declared.kind.Kind.TheVariants as kinds
use Rattle.ts_model.specs.declared.def.Def.TheVariants as defs
use Rattle.ts_layout.specs.Meaning.{IsRowTypeDef, IsPatternDef, IsCalendarDef, IsDef, IsContainerDef, IsRegularPart, IsSeriesDef, IsSlotOf, def_at, KeepLimits, heading_in, heading_at, shape_of, shape_at}

-- a key has at most 64 bytes
pub length-key : (key : List ℕ) → IsTrue (is_key key) → length key ≤ 64
length-key key form = grind (arith, nat_tests)

-- the definitions of one kind
only : (format : ℕ) (kind : Kind) (P : Def → Type 0) → ((a : KindDef kind) → IsDef format (to_def kind a) → P (to_def kind a)) → (def : Def) → kind_of def ≡ kind → IsDef format def → P def
only format kind P each def is good = of_own (from_def kind def) (back kind def is) where
  of_own : (o : Option (KindDef kind)) → option_map (to_def kind) o ≡ Some def → P def
  of_own None none = absurd (cc)
  of_own (Some a) some = let same : to_def kind a ≡ def = cc in subst P same (each a (subst (IsDef format) (sym same) good))

pub row_types_only : (format : ℕ) (P : Def → Type 0) → ((name : List ℕ) (h : Heading) → IsRowTypeDef format (record { name = name; heading = h }) → P (defs.RowType name h)) → (def : Def) → kind_of def ≡ kinds.RowType → IsDef format def → P def
row_types_only format P each = only format kinds.RowType P (λ r. each r.name r.heading)

pub patterns_only : (format : ℕ) (P : Def → Type 0) → ((name : List ℕ) (p : Plan) → IsPatternDef (record { name = name; pattern = p }) → P (defs.Pattern name p)) → (def : Def) → kind_of def ≡ kinds.Pattern → IsDef format def → P def
patterns_only format P each = only format kinds.Pattern P (λ p. each p.name p.pattern)

pub calendars_only : (format : ℕ) (P : Def → Type 0) → ((name : List ℕ) (c : CalendarPlan) (by : Option ℕ) → IsCalendarDef (record { name = name; calendar = c; by = by }) → P (defs.Calendar name c by)) → (def : Def) → kind_of def ≡ kinds.Calendar → IsDef format def → P def
calendars_only format P each = only format kinds.Calendar P (λ c. each c.name c.calendar c.by)

pub containers_only : (format : ℕ) (P : Def → Type 0) → ((name : List ℕ) (row_type quota : ℕ) → IsContainerDef (record { name = name; row_type = row_type; quota = quota }) → P (defs.Container name row_type quota)) → (def : Def) → kind_of def ≡ kinds.Container → IsDef format def → P def
containers_only format P each = only format kinds.Container P (λ c. each c.name c.row_type c.quota)

pub series_only : (format : ℕ) (P : Def → Type 0) → ((key : List ℕ) (container : ℕ) (regular : Option (ℕ × ℤ)) → IsSeriesDef (record { key = key; container = container; regular = regular }) → P (defs.Series key container regular)) → (def : Def) → kind_of def ≡ kinds.Series → IsDef format def → P def
series_only format P each = only format kinds.Series P (λ s. each s.key s.container s.regular)

-- the slots that definitions refer to are slots
pub calendar_limit : (d : Definitions) → KeepLimits d → (slot : ℕ) → slot < 256 → (name : List ℕ) (c : CalendarPlan) (by : ℕ) → def_at kinds.Calendar slot d ≡ Some (defs.Calendar name c (Some by)) → by < 256
calendar_limit d limits slot within name c by is = (let P : Option Def → Type 0 = IsSlotOf d.format kinds.Calendar in subst P is (limits.each kinds.Calendar slot within)).1.by

pub container_limit : (d : Definitions) → KeepLimits d → (slot : ℕ) → slot < 64 → (name : List ℕ) (row_type quota : ℕ) → def_at kinds.Container slot d ≡ Some (defs.Container name row_type quota) → row_type < 64
container_limit d limits slot within name row_type quota is = (let P : Option Def → Type 0 = IsSlotOf d.format kinds.Container in subst P is (limits.each kinds.Container slot within)).1.row_type

pub series_limit : (d : Definitions) → KeepLimits d → (slot : ℕ) → slot < 4096 → (key : List ℕ) (container : ℕ) (regular : Option (ℕ × ℤ)) → def_at kinds.Series slot d ≡ Some (defs.Series key container regular) → container < 64
series_limit d limits slot within key container regular is = (let P : Option Def → Type 0 = IsSlotOf d.format kinds.Series in subst P is (limits.each kinds.Series slot within)).1.container

pub regular_limit : (d : Definitions) → KeepLimits d → (slot : ℕ) → slot < 4096 → (key : List ℕ) (container : ℕ) (regular : ℕ × ℤ) → def_at kinds.Series slot d ≡ Some (defs.Series key container (Some regular)) → IsRegularPart regular
regular_limit d limits slot within key container regular is = (let P : Option Def → Type 0 = IsSlotOf d.format kinds.Series in subst P is (limits.each kinds.Series slot within)).1.regular

-- no series stands past the last slot
pub heading_past : (d : Definitions) → IsDefinitions d → (slot : ℕ) → 4096 ≤ slot → None ≡ heading_at d slot
heading_past d rules slot past = ap (option_and_then (λ (s : SeriesDef). heading_in d s.container)) (sym (get_or_past d.series slot None (omega (arith, past, rules.series.size))))

pub shape_past : (d : Definitions) → IsDefinitions d → (slot : ℕ) → 4096 ≤ slot → None ≡ shape_at d slot
shape_past d rules slot past = ap (option_and_then (λ (s : SeriesDef). shape_of d s.regular)) (sym (get_or_past d.series slot None (omega (arith, past, rules.series.size))))
