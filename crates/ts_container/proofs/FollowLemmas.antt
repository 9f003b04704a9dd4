-- Calendars follow the patterns by whose names they were made, and keep the rules of calendars, while slots are filled.
use Rattle.std.proofs.Common.{◌≡◌, ℕ, ◌<◌, Option, Some, None, IsSome, List, length, set, get_or-set_same, get_or-set_other, refl, sym, ap, subst, ◌∙◌, inl, inr}
use Rattle.std.specs.Option.{option_map}
use Rattle.std.proofs.lemmas.Bool.{cases_eq}
use Rattle.ts_pattern.specs.Patterns.{Plan}
use Rattle.ts_calendar.specs.Calendars.{IsValid}
use Rattle.ts_model.specs.declared.kind.Kind.TheVariants as kinds
use Rattle.ts_model.specs.declared.def.Def.{Def}
use Rattle.ts_model.specs.declared.def.Def.TheVariants as defs
use Rattle.ts_model.specs.Definitions.{Definitions, PatternDef, CalendarDef, of_pattern, of_calendar, kind_of, table_of, at_slot, def_at, with_slot, pattern_reference, references}
use Rattle.ts_layout.specs.Meaning.{IsThere, AreThereIn, Follows, AreFollowing, AreValid}
use Rattle.ts_layout.specs.Changed.{KeepsCalendarRules}
use Rattle.ts_layout.proofs.CallerLemmas.{at_slot-map, own}

-- the pattern of a slot
abbrev pub plan_in : Option PatternDef → Option Plan
plan_in o = option_map (λ p. p.pattern) o

plan_there : (o : Option PatternDef) (p : Plan) → plan_in o ≡ Some p → IsSome (option_map of_pattern o)
plan_there None p none = absurd (cc)
plan_there (Some x) p some = refl

-- a calendar that follows a pattern refers to something
by_there : (d : Definitions) (p : Plan) (by : Option ℕ) → ((slot : ℕ) → by ≡ Some slot → plan_in (at_slot slot d.patterns) ≡ Some p) → IsThere d (pattern_reference by)
by_there d p None follows = tt
by_there d p (Some slot) follows = (subst IsSome (sym (at_slot-map of_pattern slot d.patterns)) (plan_there (at_slot slot d.patterns) p (follows slot refl)), tt)

pub calendars_there : (d : Definitions) → AreFollowing d → AreThereIn kinds.Calendar d
calendars_there d follow slot def within is =
    let its = own of_calendar slot d.calendars def is in
    subst (λ (x : Def). IsThere d (references x)) its.2 (by_there d its.0.calendar.pattern its.0.by (follow slot its.0 its.1))

-- what holds of each definition in a table holds of each with one more
module _ {A : Type 0} (P : A → Type 0) (slot : ℕ) (a : A) (table : List (Option A)) (within : slot < length table) (here : P a) (others : (i : ℕ) (x : A) → at_slot i table ≡ Some x → P x) where
  one : (x : A) → at_slot slot (set table slot (Some a)) ≡ Some x → P x
  one x is = let same : a ≡ x = some_same a x (sym (get_or-set_same table slot (Some a) None within) ∙ is) in subst P same here where
    some_same : (a x : A) → Some a ≡ Some x → a ≡ x
    some_same a x is = cc

  pub each_more : (i : ℕ) (x : A) → at_slot i (set table slot (Some a)) ≡ Some x → P x
  each_more i x is = elim (cases_eq i slot) [
    | inl same ↦ one x (ap (λ (n : ℕ). at_slot n (set table slot (Some a))) (sym same) ∙ is)
    | inr other ↦ others i x (sym (get_or-set_other table slot i (Some a) None other) ∙ is)
  ]

-- a pattern in an empty slot changes none that is followed
still_there : (patterns : List (Option PatternDef)) (slot i : ℕ) (a : PatternDef) (p : Plan) → at_slot slot patterns ≡ None → plan_in (at_slot i patterns) ≡ Some p → plan_in (at_slot i (set patterns slot (Some a))) ≡ Some p
still_there patterns slot i a p empty is = elim (cases_eq i slot) [
  | inl same ↦ absurd (no_plan (at_slot i patterns) p (ap (λ (n : ℕ). at_slot n patterns) same ∙ empty) is)
  | inr other ↦ ap plan_in (get_or-set_other patterns slot i (Some a) None other) ∙ is
] where
  no_plan : (o : Option PatternDef) (p : Plan) → o ≡ None → plan_in o ≡ Some p → ⊥
  no_plan None p none some = cc
  no_plan (Some x) p none some = cc

none_of : (o : Option PatternDef) → option_map of_pattern o ≡ None → o ≡ None
none_of None none = refl
none_of (Some x) none = absurd (cc)

-- a definition that keeps the rules of calendars is put into an empty slot
pub follow_more : (d : Definitions) (slot : ℕ) (def : Def) → slot < length (table_of (kind_of def) d) → def_at (kind_of def) slot d ≡ None → KeepsCalendarRules def d → AreFollowing d → AreFollowing (with_slot (kind_of def) slot (Some def) d)
follow_more d slot (defs.RowType name kind) within empty rules follow = follow
follow_more d slot (defs.Pattern name pattern) within empty rules follow = λ i c there by is.
    still_there d.patterns slot by (record { name = name; pattern = pattern }) c.calendar.pattern (none_of (at_slot slot d.patterns) (sym (at_slot-map of_pattern slot d.patterns) ∙ empty)) (follow i c there by is)
follow_more d slot (defs.Calendar name calendar by) within empty rules follow = each_more (Follows d.patterns) slot (record { name = name; calendar = calendar; by = by }) d.calendars within rules.1 follow
follow_more d slot (defs.Container name row_type quota) within empty rules follow = follow
follow_more d slot (defs.Series key container regular) within empty rules follow = follow

pub valid_more : (d : Definitions) (slot : ℕ) (def : Def) → slot < length (table_of (kind_of def) d) → KeepsCalendarRules def d → AreValid d → AreValid (with_slot (kind_of def) slot (Some def) d)
valid_more d slot (defs.RowType name kind) within rules valid = valid
valid_more d slot (defs.Pattern name pattern) within rules valid = valid
valid_more d slot (defs.Calendar name calendar by) within rules valid = each_more (λ (c : CalendarDef). IsValid c.calendar) slot (record { name = name; calendar = calendar; by = by }) d.calendars within rules.0 valid
valid_more d slot (defs.Container name row_type quota) within rules valid = valid
valid_more d slot (defs.Series key container regular) within rules valid = valid
