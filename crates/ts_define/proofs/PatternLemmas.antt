-- Patterns and calendars: what stands in the slots of names, what goes on with what is there, and what a calendar refers to.
use Rattle.std.proofs.Common.{◌≡◌, ℕ, ◌<◌, Bool, true, false, if◌then◌else◌, Err, IsSome, IfSome, Option, Some, None, Result, Ok, List, refl, ap, sym, subst, ◌∙◌}
use Rattle.std.specs.Option.{option_map}
use Rattle.std.proofs.lemmas.List.Quantifiers.{position-Some}
use Rattle.ts_base.specs.declared.fault.Trouble.{Trouble}
use Rattle.ts_pattern.specs.declared.junction.Junction.{Junction}
use Rattle.ts_pattern.specs.declared.junction.Junction.TheVariants.{And, Or}
use Rattle.ts_pattern.specs.Patterns.{Plan, has_on}
use Rattle.ts_base.specs.declared.refusal.Refusal.TheVariants.{BadCalendar, AllOff}
use Rattle.ts_base.specs.Answer.{Answers}
use Rattle.ts_calendar.specs.Calendars.{CalendarPlan, is_late, is_apart, valid_calendar}
use Rattle.ts_model.specs.declared.kind.Kind.{Kind}
use Rattle.ts_model.specs.declared.def.Def.{Def}
use Rattle.ts_model.specs.Catalogue.{Catalogue}
use Rattle.ts_model.specs.Definitions.{Definitions, PatternDef, CalendarDef, to_def, of_pattern, table_of, slots, at_slot, has_name, pattern_slots, pattern_reference}
use Rattle.ts_layout.specs.Meaning.{Layout, IsThere}
use Rattle.ts_layout.proofs.CallerLemmas.{at_slot-map}
use Rattle.ts_answer.specs.Answer.{Tried, Answered, ◌>>=◌, outcome, carried_out, join_patterns, join_calendars}
use Rattle.ts_answer.specs.Slots.{IsSlotNamed, IsCalendarIn}
use Rattle.ts_answer.specs.Tried.{IsTried}
use Rattle.ts_answer.proofs.CallerLemmas.{on_ok, answered}
use Rattle.ts_define.specs.Patterns.{join_of_patterns, join_of_calendars, IsPatternBy}

-- something stands in the slot of a name
has_some : {A : Type 0} (f : A → Def) (o : Option A) (name : List ℕ) → has_name name (option_map f o) ≡ true → IsSome o
has_some f None name is = absurd (cc)
has_some f (Some a) name is = refl

pub filled : (kind : Kind) (slot : ℕ) (name : List ℕ) (d : Definitions) → IsSlotNamed kind slot name d → IsSome (at_slot slot (table_of kind d))
filled kind slot name d named =
    has_some (to_def kind) (at_slot slot (table_of kind d)) name
    (ap (has_name name) (sym (at_slot-map (to_def kind) slot (table_of kind d))) ∙ (position-Some (has_name name) (slots kind d) slot None named.is).1)

-- the calendar in a slot is the one that was tried
pub its_plan : (d : Definitions) (l : Layout) (name : List ℕ) (slot : ℕ) (plan made : CalendarPlan) → d ≡ l.definitions → IsCalendarIn name l slot plan → option_map (λ (c : CalendarDef). c.calendar) (at_slot slot d.calendars) ≡ Some made → made ≡ plan
its_plan d l name slot plan made same stands is =
    let own : Some made ≡ Some stands.def.calendar =
    sym is ∙ ap (λ (x : Definitions). option_map (λ (c : CalendarDef). c.calendar) (at_slot slot x.calendars)) same ∙ ap (option_map (λ (c : CalendarDef). c.calendar)) stands.there in
    let plain : made ≡ stands.def.calendar = cc in plain ∙ sym stands.is

-- what is found goes on
pub found : {A B D C : Type 0} {tried : Tried B} {Like : C → D → Type 0} {r : Result C Trouble} (value : A → B) (f : B → Tried D) (a : A) → IsTried (Ok a) tried (λ x b. value x ≡ b) → IsTried r (f (value a)) Like → IsTried r (tried >>= f) Like
found {tried = tried} {Like = Like} {r = r} value f a is rest =
    subst (λ t. IsTried r t Like) (sym (on_ok tried (value a) f (is.ok.1 ∙ ap Ok (sym is.ok.2)))) rest

-- what is read of the same bytes
pub read_of : {A : Type 0} (read : List ℕ → Tried A) (result : Result A Trouble) (bytes text : List ℕ) → bytes ≡ text → Answers (read bytes) result → IsTried result (read text) ◌≡◌
read_of read result bytes text same is = subst (λ (t : List ℕ). IsTried result (read t) ◌≡◌) same (answered (read bytes) result is)

-- a calendar that breaks no rule is the one that was tried
not_refused : (late apart on : Bool) (c made : CalendarPlan) → (if late then Err (BadCalendar 0) else (if apart then Err (BadCalendar 0) else (if on then Ok c else Err AllOff))) ≡ Ok made → made ≡ c
not_refused true apart on c made is = absurd (cc)
not_refused false true on c made is = absurd (cc)
not_refused false false true c made is = cc
not_refused false false false c made is = absurd (cc)

pub valid_is : (c made : CalendarPlan) → valid_calendar c ≡ Ok made → made ≡ c
valid_is c made is = not_refused (is_late c.pattern.unit c.patt_start) (is_apart c) (has_on c.pattern.runs) c made is

-- the commands that join, by how they do
module _ {C : Type 0} {Like : C → Answered → Type 0} {r : Result C Trouble} where
  pub patterns_join : (junction : Junction) (name first second : List ℕ) (cat : Catalogue) → IsTried r (join_patterns junction name first second cat) Like → IsTried r (outcome (Ok (join_of_patterns junction name first second)) cat) Like
  unfolding outcome carried_out
  patterns_join And name first second cat tried = tried
  patterns_join Or name first second cat tried = tried

  pub calendars_join : (junction : Junction) (name first second : List ℕ) (cat : Catalogue) → IsTried r (join_calendars junction name first second cat) Like → IsTried r (outcome (Ok (join_of_calendars junction name first second)) cat) Like
  unfolding outcome carried_out
  calendars_join And name first second cat tried = tried
  calendars_join Or name first second cat tried = tried

-- the slot by which a calendar has its pattern
pub record IsReference (by : Option ℕ) (pattern : Plan) (d : Definitions) : Type 0 where
  pub within : IfSome by (λ slot. slot < pattern_slots)
  pub there : IsThere d (pattern_reference by)
  pub follows : (slot : ℕ) → by ≡ Some slot → option_map (λ (p : PatternDef). p.pattern) (at_slot slot d.patterns) ≡ Some pattern

some_there : (o : Option PatternDef) (pattern : Plan) → option_map (λ (p : PatternDef). p.pattern) o ≡ Some pattern → IsSome (option_map of_pattern o)
some_there None pattern is = absurd (cc)
some_there (Some p) pattern is = refl

pub reference : (by : Option ℕ) (pattern : Plan) (d : Definitions) → IsPatternBy by pattern d → IsReference by pattern d
reference None pattern d is = record { within = tt; there = tt; follows = λ slot none. absurd (cc) }
reference (Some at) pattern d is = record {
  within = is.0;
  there = (subst (λ (o : Option Def). IsSome o) (sym (at_slot-map of_pattern at d.patterns)) (some_there (at_slot at d.patterns) pattern is.1), tt);
  follows = λ slot same. let e : at ≡ slot = cc in subst (λ (n : ℕ). option_map (λ (p : PatternDef). p.pattern) (at_slot n d.patterns) ≡ Some pattern) e is.1;
}
