-- The bytes of a pattern and of a calendar are those of no other, but for the runs of calendars that were made by a pattern's name.
use Rattle.std.proofs.Common.{◌≡◌, ℕ, Option, Some, None, IsTrue, List, [], take, drop, get_or, refl, sym, ap, ◌∙◌, ℤ, arith}
use Rattle.std.specs.Option.{option_map}
use Rattle.std.specs.Int.{w64, from_be_bytes, cast_signed}
use Rattle.ts_base.specs.declared.unit.Unit.TheVariants as units
use Rattle.ts_base.specs.Moment.{IsStamp}
use Rattle.ts_pattern.specs.Patterns.{is_pattern, Plan}
use Rattle.ts_calendar.specs.Calendars.{CalendarPlan}
use Rattle.ts_cells.specs.IrregularPage.{stamp_bytes}
use Rattle.ts_cells.proofs.CellLemmas.{units_back}
use Rattle.ts_model.specs.declared.def.Def.{Def}
use Rattle.ts_model.specs.declared.def.Def.TheVariants as defs
use Rattle.ts_model.specs.Definitions.{PatternDef, CalendarDef, at_slot, name_of, references}
use Rattle.ts_layout.specs.Slot.{padded, part_bytes, pattern_bytes, calendar_bytes}
use Rattle.ts_layout.specs.Meaning.{IsPatternDef, IsCalendarDef, Follows}
use Rattle.ts_layout.proofs.FieldLemmas.{length-name, name_one, pattern_name, calendar_name, calendar_start, calendar_patt_start, calendar_part}
use Rattle.ts_layout.proofs.PlanBytesLemmas.{plan_one, behind_pattern, part_named, part_slot, part_own, part_plan}

-- patterns
pub pattern_one : (name : List ℕ) (p : Plan) (name' : List ℕ) (p' : Plan) → IsPatternDef (record { name = name; pattern = p }) → IsPatternDef (record { name = name'; pattern = p' })
    → pattern_bytes name p ≡ pattern_bytes name' p' → defs.Pattern name p ≡ defs.Pattern name' p'
pattern_one name p name' p' is is' same =
    let names = name_one name name' (sym (pattern_name name p (length-name name is.name)) ∙ ap (λ (l : List ℕ). take 33 (drop 1 l)) same ∙ pattern_name name' p' (length-name name' is'.name)) in
    let plans = plan_one p p' _ _ _ is.runs is'.runs (behind_pattern (pattern_bytes name p) name p is refl) (behind_pattern (pattern_bytes name p) name' p' is' same) in
    λ i. defs.Pattern (names i) (plans i)

-- a definition as its bytes tell: a calendar that was made by a pattern's name has no runs there
abbrev pub written_plan : Plan → Option ℕ → Plan
written_plan p None = p
written_plan p (Some slot) = record { unit = units.Second; runs = [] }

abbrev pub as_written : Def → Def
as_written (defs.RowType name kind) = defs.RowType name kind
as_written (defs.Pattern name pattern) = defs.Pattern name pattern
as_written (defs.Calendar name c by) = defs.Calendar name (record c { pattern = written_plan c.pattern by }) by
as_written (defs.Container name row_type quota) = defs.Container name row_type quota
as_written (defs.Series key container regular) = defs.Series key container regular

-- it has its name, and refers to the same
pub name_written : (def : Def) → name_of (as_written def) ≡ name_of def
name_written (defs.RowType name kind) = refl
name_written (defs.Pattern name pattern) = refl
name_written (defs.Calendar name c by) = refl
name_written (defs.Container name row_type quota) = refl
name_written (defs.Series key container regular) = refl

pub references_written : (def : Def) → references (as_written def) ≡ references def
references_written (defs.RowType name kind) = refl
references_written (defs.Pattern name pattern) = refl
references_written (defs.Calendar name c by) = refl
references_written (defs.Container name row_type quota) = refl
references_written (defs.Series key container regular) = refl

-- stamps
pub stamp_one : (s t : ℤ) → IsStamp s → IsStamp t → stamp_bytes s ≡ stamp_bytes t → s ≡ t
stamp_one s t is is' same = sym (units_back s is) ∙ ap (λ (l : List ℕ). cast_signed w64 (from_be_bytes w64 l)) same ∙ units_back t is'

-- which pattern each has, as it is written
part_one : (p : Plan) (by : Option ℕ) (p' : Plan) (by' : Option ℕ) → IsTrue (is_pattern p.runs) → IsTrue (is_pattern p'.runs)
    → padded 4046 (part_bytes p by) ≡ padded 4046 (part_bytes p' by') → (by ≡ by') × (written_plan p by ≡ written_plan p' by')
part_one p None p' None is is' same = (refl, plan_one p p' _ _ _ is is' (part_plan p) (ap (drop 2) same ∙ part_plan p'))
part_one p (Some slot) p' (Some slot') is is' same = (ap Some (sym (part_slot p slot) ∙ ap (λ (l : List ℕ). get_or l 1 0) same ∙ part_slot p' slot'), refl)
part_one p (Some slot) p' None is is' same = absurd (omega (arith, part_named p slot, ap (λ (l : List ℕ). get_or l 0 0) same, part_own p'))
part_one p None p' (Some slot') is is' same = absurd (omega (arith, part_own p, ap (λ (l : List ℕ). get_or l 0 0) same, part_named p' slot'))

-- what the bytes of two calendars tell of both
record SameBytes (name : List ℕ) (c : CalendarPlan) (by : Option ℕ) (name' : List ℕ) (c' : CalendarPlan) (by' : Option ℕ) : Type 0 where
  names : name ≡ name'
  starts : c.start ≡ c'.start
  patt_starts : c.patt_start ≡ c'.patt_start
  parts : (by ≡ by') × (written_plan c.pattern by ≡ written_plan c'.pattern by')

bytes_one : (name : List ℕ) (c : CalendarPlan) (by : Option ℕ) (name' : List ℕ) (c' : CalendarPlan) (by' : Option ℕ) → IsCalendarDef (record { name = name; calendar = c; by = by })
    → IsCalendarDef (record { name = name'; calendar = c'; by = by' }) → calendar_bytes name c by ≡ calendar_bytes name' c' by' → SameBytes name c by name' c' by'
bytes_one name c by name' c' by' is is' same =
    let short = length-name name is.name in
    let short' = length-name name' is'.name in
    record {
      names = name_one name name' (sym (calendar_name name c by short) ∙ ap (λ (l : List ℕ). take 33 (drop 1 l)) same ∙ calendar_name name' c' by' short');
      starts = stamp_one c.start c'.start is.start is'.start (sym (calendar_start name c by short) ∙ ap (λ (l : List ℕ). take 8 (drop 34 l)) same ∙ calendar_start name' c' by' short');
      patt_starts = stamp_one c.patt_start c'.patt_start is.patt_start is'.patt_start
          (sym (calendar_patt_start name c by short) ∙ ap (λ (l : List ℕ). take 8 (drop 42 l)) same ∙ calendar_patt_start name' c' by' short');
      parts = part_one c.pattern by c'.pattern by' is.runs is'.runs (sym (calendar_part name c by short) ∙ ap (drop 50) same ∙ calendar_part name' c' by' short');
    }

-- calendars as they are written
pub calendar_written : (name : List ℕ) (c : CalendarPlan) (by : Option ℕ) (name' : List ℕ) (c' : CalendarPlan) (by' : Option ℕ) → IsCalendarDef (record { name = name; calendar = c; by = by })
    → IsCalendarDef (record { name = name'; calendar = c'; by = by' }) → calendar_bytes name c by ≡ calendar_bytes name' c' by' → as_written (defs.Calendar name c by) ≡ as_written (defs.Calendar name' c' by')
calendar_written name c by name' c' by' is is' same =
    let all = bytes_one name c by name' c' by' is is' same in
    λ i. defs.Calendar (all.names i) (record { start = all.starts i; patt_start = all.patt_starts i; pattern = all.parts.1 i }) (all.parts.0 i)

-- calendars that follow tables of patterns, with the same pattern in the slot by whose name they were made
same_plan : (p q : Plan) (by by' : Option ℕ) → by ≡ by' → written_plan p by ≡ written_plan q by' → ((slot : ℕ) → by ≡ Some slot → by' ≡ Some slot → p ≡ q) → p ≡ q
same_plan p q None None same written named = written
same_plan p q None (Some slot) same written named = absurd (cc)
same_plan p q (Some slot) None same written named = absurd (cc)
same_plan p q (Some slot) (Some slot') same written named = named slot refl (sym same)

pub calendar_one : (patterns patterns' : List (Option PatternDef)) (c c' : CalendarDef) → IsCalendarDef c → IsCalendarDef c' → Follows patterns c → Follows patterns' c'
    → ((slot : ℕ) → c.by ≡ Some slot → at_slot slot patterns ≡ at_slot slot patterns') → calendar_bytes c.name c.calendar c.by ≡ calendar_bytes c'.name c'.calendar c'.by → c ≡ c'
calendar_one patterns patterns' c c' is is' follows follows' tables same =
    let all = bytes_one c.name c.calendar c.by c'.name c'.calendar c'.by is is' same in
    let plans : c.calendar.pattern ≡ c'.calendar.pattern = same_plan c.calendar.pattern c'.calendar.pattern c.by c'.by all.parts.0 all.parts.1 (λ slot by by'.
    let both : Some c.calendar.pattern ≡ Some c'.calendar.pattern = sym (follows slot by) ∙ ap (option_map (λ (p : PatternDef). p.pattern)) (tables slot by) ∙ follows' slot by' in cc) in
    λ i. record { name = all.names i; calendar = record { start = all.starts i; patt_start = all.patt_starts i; pattern = plans i }; by = all.parts.0 i }
