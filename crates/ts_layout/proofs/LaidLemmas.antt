-- The calendars of sound definitions are laid, and so are the grids of their series.
use Rattle.std.proofs.Common.{◌≡◌, ℕ, ◌<◌, ◌≤◌, IsTrue, Bool, true, false, ◌&&◌, if◌then◌else◌, Option, Some, None, Result, Ok, Err, ap, subst, ◌∙◌, arith, ℤ, refl}
use Rattle.std.specs.Prelude.{nat_lt}
use Rattle.std.specs.Option.{option_map}
use Rattle.std.proofs.lemmas.Bool.Decides.{nat_tests}
use Rattle.ts_base.specs.declared.refusal.Refusal.{Refusal}
use Rattle.ts_base.specs.Moment.{day_of_month}
use Rattle.ts_pattern.specs.Patterns.{is_monthly}
use Rattle.ts_calendar.specs.Calendars.{is_late, valid_calendar, IsLaid}
use Rattle.ts_offset.specs.Grid.{GridPlan}
use Rattle.ts_offset.specs.declared.shape.Shape.{Shape}
use Rattle.ts_offset.specs.declared.shape.Shape.TheVariants.{Irregular, Regular}
use Rattle.ts_model.specs.declared.kind.Kind.TheVariants as kinds
use Rattle.ts_model.specs.declared.def.Def.{Def}
use Rattle.ts_model.specs.Definitions.{Definitions, CalendarDef, SeriesDef, at_slot, of_calendar, IsDefinitions}
use Rattle.ts_layout.specs.Meaning.{IsSlotOf, def_at, grid_in, shape_of, shape_at, KeepLimits, AreValid, AreSound}
use Rattle.ts_layout.proofs.PlaceLemmas.{at_slot-map}
use Rattle.ts_layout.proofs.OptionLemmas.{chained, mapped, within_table}
use Rattle.ts_layout.proofs.SheetLemmas.{IsLaidOn}

-- a valid calendar doesn't start on a day that some month doesn't have
not_refused : {A : Type 0} (b : Bool) (why : Refusal) (rest : Result A Refusal) (a : A) → (if b then Err why else rest) ≡ Ok a → b ≡ false
not_refused true why rest a is = absurd (cc)
not_refused false why rest a is = refl

early : (monthly : Bool) (day : ℕ) → (monthly && nat_lt 28 day) ≡ false → IsTrue monthly → day ≤ 28
early monthly day is whether = grind (arith, nat_tests)

pub calendar_laid : (d : Definitions) (slot : ℕ) (c : CalendarDef) → IsDefinitions d → KeepLimits d → AreValid d → at_slot slot d.calendars ≡ Some c → IsLaid c.calendar
calendar_laid d slot c rules limits valid there =
    let within : slot < 256 = let z = within_table d.calendars slot c there in omega (arith, z, rules.calendars.size) in
    let here : def_at kinds.Calendar slot d ≡ Some (of_calendar c) = at_slot-map of_calendar slot d.calendars ∙ ap (option_map of_calendar) there in
    let limit = (let P : Option Def → Type 0 = IsSlotOf d.format kinds.Calendar in subst P here (limits.each kinds.Calendar slot within)).1 in
    let is : valid_calendar c.calendar ≡ Ok c.calendar = valid slot c there in
    let not_late = not_refused (is_late c.calendar.pattern.unit c.calendar.patt_start) _ _ c.calendar is in
    record { stamp = limit.patt_start; early = early (is_monthly c.calendar.pattern.unit) (day_of_month c.calendar.patt_start) not_late }

-- the grid of a series is that of a calendar
pub laid_of : (d : Definitions) (regular : Option (ℕ × ℤ)) (shape : Shape) → IsDefinitions d → KeepLimits d → AreValid d → shape_of d regular ≡ Some shape → IsLaidOn shape
laid_of d None Irregular rules limits valid is = tt
laid_of d None (Regular grid) rules limits valid is = absurd (cc)
laid_of d (Some regular) shape rules limits valid is =
    let g = mapped Regular (grid_in d regular) shape is in
    let c = mapped (λ (x : CalendarDef). record { calendar = x.calendar; origin = regular.1 }) (at_slot regular.0 d.calendars) g.0 g.1 in
    subst IsLaidOn g.2 (subst (λ (x : GridPlan). IsLaid x.calendar) c.2 (calendar_laid d regular.0 c.0 rules limits valid c.1))

pub laid_at : (d : Definitions) (pages slot : ℕ) (shape : Shape) → AreSound pages d → shape_at d slot ≡ Some shape → IsLaidOn shape
laid_at d pages slot shape sound is =
    let s = chained (λ (x : SeriesDef). shape_of d x.regular) (at_slot slot d.series) shape is in
    laid_of d s.0.regular shape sound.tables sound.limits sound.valid s.2
