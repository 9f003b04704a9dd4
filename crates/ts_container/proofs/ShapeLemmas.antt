-- Series and calendars as they stand in their slots, and where the elements of a series can stand.
use Rattle.std.proofs.Common.{◌≡◌, ℕ, Option, Some, None, List, sym, ap, subst, ◌∙◌, ℤ}
use Rattle.std.specs.Option.{option_map}
use Rattle.ts_calendar.specs.Calendars.{CalendarPlan}
use Rattle.ts_offset.specs.declared.shape.Shape.TheVariants.{Regular}
use Rattle.ts_model.specs.declared.kind.Kind.TheVariants as kinds
use Rattle.ts_model.specs.declared.def.Def.TheVariants as defs
use Rattle.ts_model.specs.Definitions.{Definitions, CalendarDef, SeriesDef, of_calendar, of_series, at_slot, def_at}
use Rattle.ts_layout.specs.Meaning.{shape_of}
use Rattle.ts_layout.proofs.CallerLemmas.{at_slot-map}

-- the calendar of a slot
calendar_there : (o : Option CalendarDef) (name : List ℕ) (calendar : CalendarPlan) (by : Option ℕ) → option_map of_calendar o ≡ Some (defs.Calendar name calendar by) → o ≡ Some (record { name = name; calendar = calendar; by = by })
calendar_there None name calendar by is = absurd (cc)
calendar_there (Some c) name calendar by is =
    let names : c.name ≡ name = cc in
    let plans : c.calendar ≡ calendar = cc in
    let bys : c.by ≡ by = cc in
    λ i. Some (record { name = names i; calendar = plans i; by = bys i })

pub calendar_at : (d : Definitions) (slot : ℕ) (name : List ℕ) (calendar : CalendarPlan) (by : Option ℕ) → def_at kinds.Calendar slot d ≡ Some (defs.Calendar name calendar by) → at_slot slot d.calendars ≡ Some (record { name = name; calendar = calendar; by = by })
calendar_at d slot name calendar by is = calendar_there (at_slot slot d.calendars) name calendar by (sym (at_slot-map of_calendar slot d.calendars) ∙ is)

-- the series of a slot
series_there : (o : Option SeriesDef) (key : List ℕ) (container : ℕ) (regular : Option (ℕ × ℤ)) → option_map of_series o ≡ Some (defs.Series key container regular) → o ≡ Some (record { key = key; container = container; regular = regular })
series_there None key container regular is = absurd (cc)
series_there (Some s) key container regular is =
    let keys : s.key ≡ key = cc in
    let containers : s.container ≡ container = cc in
    let regulars : s.regular ≡ regular = cc in
    λ i. Some (record { key = keys i; container = containers i; regular = regulars i })

pub series_stands : (d : Definitions) (slot : ℕ) (key : List ℕ) (container : ℕ) (regular : Option (ℕ × ℤ)) → def_at kinds.Series slot d ≡ Some (defs.Series key container regular) → at_slot slot d.series ≡ Some (record { key = key; container = container; regular = regular })
series_stands d slot key container regular is = series_there (at_slot slot d.series) key container regular (sym (at_slot-map of_series slot d.series) ∙ is)

-- what holds of the one thing that stands in a slot
pub of_one : {A : Type 0} (P : A → Type 0) (o : Option A) (a : A) → o ≡ Some a → P a → (b : A) → o ≡ Some b → P b
of_one P o a is holds b there = let same : a ≡ b = cc in subst P same holds

-- the on starts of a calendar from an origin on are the shape of a series of that calendar and that origin
pub shape_on : (d : Definitions) (slot : ℕ) (origin : ℤ) (c : CalendarDef) → at_slot slot d.calendars ≡ Some c → Some (Regular (record { calendar = c.calendar; origin = origin })) ≡ shape_of d (Some (slot, origin))
shape_on d slot origin c there =
    sym (ap (λ (o : Option CalendarDef). option_map Regular (option_map (λ x. record { calendar = x.calendar; origin = origin }) o)) there)
