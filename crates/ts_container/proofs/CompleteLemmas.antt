-- A calendar completed with its pattern, and each calendar with the same form.
use Rattle.std.proofs.Common.{◌≡◌, ℕ, Option, Some, None, Result, Ok, Err, List, refl, sym, ap, subst, ◌∙◌}
use Rattle.std.specs.Option.{option_map}
use Rattle.ts_pattern.specs.Patterns.{Plan}
use Rattle.ts_calendar.specs.Calendars.{CalendarPlan, IsValid}
use Rattle.ts_model.specs.declared.def.Def.{Def}
use Rattle.ts_model.specs.declared.def.Def.TheVariants as defs
use Rattle.ts_model.specs.Definitions.{Definitions, PatternDef, CalendarDef, at_slot}
use Rattle.ts_layout.specs.Meaning.{Follows}
use Rattle.ts_layout.specs.Changed.{KeepsCalendarRules}
use Rattle.ts_slots.specs.declared.calendar_slot.CalendarForm.{CalendarForm}
use Rattle.ts_slots.specs.declared.slot.Written.TheVariants.{Form}
use Rattle.ts_slots.specs.Written.{part_on_page, form_of, written_of}
use Rattle.ts_container.specs.Reading.{Completes, Makes}

-- two calendars with one form say the same slot
same_by : (p q : Plan) (by by' : Option ℕ) → part_on_page q by' ≡ part_on_page p by → by' ≡ by
same_by p q None None same = refl
same_by p q None (Some slot') same = absurd (cc)
same_by p q (Some slot) None same = absurd (cc)
same_by p q (Some slot) (Some slot') same = let slots : slot' ≡ slot = cc in ap (λ (n : ℕ). Some n) slots

-- and have the same pattern, where they follow the same patterns
same_pattern : (patterns : List (Option PatternDef)) (p q : Plan) (by by' : Option ℕ) → part_on_page q by' ≡ part_on_page p by
    → ((slot : ℕ) → by ≡ Some slot → option_map (λ (x : PatternDef). x.pattern) (at_slot slot patterns) ≡ Some p)
    → ((slot : ℕ) → by' ≡ Some slot → option_map (λ (x : PatternDef). x.pattern) (at_slot slot patterns) ≡ Some q) → q ≡ p
same_pattern patterns p q None None same follows follows' = cc
same_pattern patterns p q None (Some slot') same follows follows' = absurd (cc)
same_pattern patterns p q (Some slot) None same follows follows' = absurd (cc)
same_pattern patterns p q (Some slot) (Some slot') same follows follows' =
    let slots : slot' ≡ slot = cc in
    let first = follows slot refl in
    let second = follows' slot (ap Some slots) in
    cc

-- so they have the same plan
same_plan : (patterns : List (Option PatternDef)) (a b : CalendarDef) → form_of b ≡ form_of a → Follows patterns a → Follows patterns b → b.calendar ≡ a.calendar
same_plan patterns a b forms follows follows' =
    let start : b.calendar.start ≡ a.calendar.start = ap (λ (f : CalendarForm). f.start) forms in
    let patt_start : b.calendar.patt_start ≡ a.calendar.patt_start = ap (λ (f : CalendarForm). f.patt_start) forms in
    let pattern = same_pattern patterns a.calendar.pattern b.calendar.pattern a.by b.by (ap (λ (f : CalendarForm). f.part) forms) follows follows' in
    λ i. record { start = start i; patt_start = patt_start i; pattern = pattern i }

-- and are one
pub one_calendar : (patterns : List (Option PatternDef)) (n n' : List ℕ) (c c' : CalendarPlan) (by by' : Option ℕ) → form_of (record { name = n'; calendar = c'; by = by' }) ≡ form_of (record { name = n; calendar = c; by = by })
    → Follows patterns (record { name = n; calendar = c; by = by }) → Follows patterns (record { name = n'; calendar = c'; by = by' }) → defs.Calendar n' c' by' ≡ defs.Calendar n c by
one_calendar patterns n n' c c' by by' forms follows follows' =
    let names : n' ≡ n = ap (λ (f : CalendarForm). f.name) forms in
    let plans = same_plan patterns (record { name = n; calendar = c; by = by }) (record { name = n'; calendar = c'; by = by' }) forms follows follows' in
    let bys = same_by c.pattern c'.pattern by by' (ap (λ (f : CalendarForm). f.part) forms) in
    λ i. defs.Calendar (names i) (plans i) (bys i)

-- a calendar made of a form and its pattern
pub completed : (d : Definitions) (form : CalendarForm) (name : List ℕ) (c : CalendarPlan) (by : Option ℕ) (r : Result Def (List ℕ)) → Makes name c by r
    → form ≡ record { name = name; start = c.start; patt_start = c.patt_start; part = part_on_page c.pattern by } → Follows d.patterns (record { name = name; calendar = c; by = by }) → Completes d (Form form) r
completed d form name c by (Ok def) made is follows = (
  made.1 d.format,
  ap written_of made.0 ∙ ap Form (sym is),
  subst (λ (x : Def). KeepsCalendarRules x d) (sym made.0) (made.2, follows),
)
completed d form name c by (Err given) made is follows = (
  form,
  refl,
  made.0 ∙ ap (λ (f : CalendarForm). f.name) (sym is),
  λ other same follows' valid. made.1 (subst IsValid (same_plan d.patterns (record { name = name; calendar = c; by = by }) other (same ∙ is) follows follows') valid),
)
