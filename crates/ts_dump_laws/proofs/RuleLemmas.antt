-- Every catalogue keeps the rules by which statements make it.
use Rattle.std.proofs.Common.{◌≡◌, ℕ, ◌≤◌, ℤ, IsTrue, if◌then◌else◌, Bool, true, false, ◌&&◌, Option, Some, None, Result, Ok, Err, List, refl, sym, ◌∙◌, subst, arith}
use Rattle.std.specs.Prelude.{nat_lt, IsSome}
use Rattle.std.specs.Option.{option_map, option_and_then}
use Rattle.std.specs.FinMap.{get}
use Rattle.std.proofs.lemmas.Bool.Decides.{nat_tests}
use Rattle.ts_base.specs.declared.refusal.Refusal.{Refusal}
use Rattle.ts_base.specs.Moment.{IsStamp, day_of_month}
use Rattle.ts_pattern.specs.Patterns.{Plan, is_pattern, is_monthly}
use Rattle.ts_calendar.specs.Calendars.{CalendarPlan, is_late, IsValid, IsLaid, IsSoundPart}
use Rattle.ts_calendar.specs.declared.text.PatternPart.{PatternPart}
use Rattle.ts_calendar.specs.declared.text.PatternPart.TheVariants.{Named as ByName, Own}
use Rattle.ts_calendar.specs.declared.text.CalendarText.{CalendarText}
use Rattle.ts_offset.specs.declared.shape.Shape.{Shape}
use Rattle.ts_offset.specs.declared.shape.Shape.TheVariants as shapes
use Rattle.ts_model.specs.Catalogue.{SeriesKind, Irregular, Regular, Catalogue, pattern_of, with_plan, calendar_of, calendar_named, shape_of}
use Rattle.ts_answer_laws.specs.ReadingLaws.{CanStand}
use Rattle.ts_catalogue_laws.specs.Catalogue.{IsCatalogue, IsCalendar, HasOrigin as StartsOn}
use Rattle.ts_dump_laws.specs.Rules.{HasCalendar, HasOrigin, IsPlace, KeepsRules}

pub something : {A : Type 0} (o : Option A) → IsSome o → (a : A) × (o ≡ Some a)
something (Some a) is = (a, refl)
something None is = absurd (let no : ⊥ = cc in no)

-- a valid calendar doesn't start on a day that some month doesn't have
not_refused : {A : Type 0} (b : Bool) (why : Refusal) (rest : Result A Refusal) (a : A) → (if b then Err why else rest) ≡ Ok a → b ≡ false
not_refused true why rest a is = absurd (let no : ⊥ = cc in no)
not_refused false why rest a is = refl

early : (monthly : Bool) (day : ℕ) → (monthly && nat_lt 28 day) ≡ false → IsTrue monthly → day ≤ 28
early monthly day is whether = grind (arith, nat_tests)

laid : (plan : CalendarPlan) → IsStamp plan.patt_start → IsValid plan → IsLaid plan
laid plan stamp valid =
    record { stamp = stamp; early = early (is_monthly plan.pattern.unit) (day_of_month plan.patt_start) (not_refused (is_late plan.pattern.unit plan.patt_start) _ _ plan valid) }

module _ (cat : Catalogue) (is : IsCatalogue cat) where
  -- the pattern of a calendar
  pattern_there : (text : CalendarText) (plan : CalendarPlan) → calendar_of cat text ≡ Some plan → (p : Plan) × (pattern_of cat text.part ≡ Some p) × (with_plan text p ≡ plan)
  pattern_there text plan stands =
      elim (pattern_of cat text.part) as (λ (o : Option Plan). option_map (with_plan text) o ≡ Some plan → (p : Plan) × (o ≡ Some p) × (with_plan text p ≡ plan)) [
        | None ↦ λ no. absurd (let never : ⊥ = cc in never)
        | Some p ↦ λ same. (p, refl, cc)
      ] stands

  sound_part : (part : PatternPart) (p : Plan) → pattern_of cat part ≡ Some p → IsTrue (is_pattern p.runs) → IsSoundPart part
  sound_part (ByName name) p there runs = (is.patterns name p there).word
  sound_part (Own own) p there runs = let same : own ≡ p = cc in subst (λ (x : Plan). IsTrue (is_pattern x.runs)) (sym same) runs

  has_calendar : (name : List ℕ) (text : CalendarText) → get cat.calendars name ≡ Some text → HasCalendar cat text
  has_calendar name text there =
      let its : IsCalendar (calendar_of cat text) name = is.calendars name text there in
      let p = pattern_there text its.plan its.stands in
      record {
        sound = record {
          start_is = subst (λ (plan : CalendarPlan). IsStamp plan.start) (sym p.2) its.start;
          patt_start_is = subst (λ (plan : CalendarPlan). IsStamp plan.patt_start) (sym p.2) its.patt_start;
          part_is = sound_part text.part p.0 p.1 (subst (λ (plan : CalendarPlan). IsTrue (is_pattern plan.pattern.runs)) (sym p.2) its.runs);
        };
        plan = its.plan;
        stands = its.stands;
        valid = its.valid;
        laid = laid its.plan its.patt_start its.valid;
      }

  -- the calendar of a regular series
  laid_named : (calendar : List ℕ) (plan : CalendarPlan) → calendar_named cat calendar ≡ Some plan → IsLaid plan
  laid_named calendar plan stands = by (get cat.calendars calendar) refl stands
    where
      by : (o : Option CalendarText) → get cat.calendars calendar ≡ o → option_and_then (calendar_of cat) o ≡ Some plan → IsLaid plan
      by None there absent = absurd (let never : ⊥ = cc in never)
      by (Some text) there found =
          let has = has_calendar calendar text there in
          let same : has.plan ≡ plan = (let one : Some has.plan ≡ Some plan = sym has.stands ∙ found in cc) in
          subst IsLaid same has.laid

  has_origin : (kind : SeriesKind) (shape : Shape) → shape_of cat kind ≡ Some shape → StartsOn shape → HasOrigin shape
  has_origin kind shapes.Irregular lies on = tt
  has_origin Irregular (shapes.Regular grid) lies on = absurd (let never : ⊥ = cc in never)
  has_origin (Regular calendar origin) (shapes.Regular grid) lies on =
      elim (calendar_named cat calendar) as (λ (o : Option CalendarPlan). calendar_named cat calendar ≡ o → option_map (λ (plan : CalendarPlan). shapes.Regular (record { calendar = plan; origin = origin })) o ≡ Some (shapes.Regular grid)
      → HasOrigin (shapes.Regular grid)) [
        | None ↦ λ there no. absurd (let never : ⊥ = cc in never)
        | Some plan ↦ λ there yes. (let same : plan ≡ grid.calendar = cc in subst IsLaid same (laid_named calendar plan there), on)
      ] refl lies

  can_stand : (shape : Shape) (stamp : ℤ) → CanStand shape stamp → IsPlace shape stamp
  can_stand shapes.Irregular stamp can = tt
  can_stand (shapes.Regular grid) stamp can = can

  pub keeps_rules : KeepsRules cat
  keeps_rules = record {
    row_types = λ name h there. (is.row_types name h there).rules;
    patterns = λ name p there. (is.patterns name p there).runs;
    calendars = has_calendar;
    containers = λ name c there. let h = something (get cat.row_types c.row_type) (is.containers name c there).row_type_there in record { heading = h.0; listed = h.1 };
    series = λ key s there.
        let its = is.series key s there in
        let c = something (get cat.containers s.container) its.container_there in
        record {
          container = c.0;
          listed = c.1;
          shape = its.shape;
          lies = its.shape_there;
          origin = has_origin s.kind its.shape its.shape_there its.origin;
          places = λ stamp row has. can_stand its.shape stamp (its.starts stamp row has);
          rows = its.rows;
        };
    few = is.few;
    quotas = is.quotas;
    charges = λ name c there. (is.containers name c there).charge;
  }
