-- Definition pages of slots say some definitions, whatever rules these break together.
use Rattle.std.proofs.Common.{◌≡◌, ℕ, zero, suc, ◌<◌, IsTrue, Option, Some, None, IfSome, List, [], ◌∷◌, map, length, refl, sym, ap, subst, ◌∙◌, arith, inl, inr}
use Rattle.std.specs.Option.{option_map, option_and_then, unwrap_or}
use Rattle.std.proofs.lemmas.Bool.{cases_lt}
use Rattle.std.proofs.lemmas.List.{get_or_past}
use Rattle.ts_pattern.specs.Patterns.{Plan, is_pattern}
use Rattle.ts_calendar.specs.Calendars.{CalendarPlan}
use Rattle.ts_model.specs.declared.kind.Kind.{Kind}
use Rattle.ts_model.specs.declared.kind.Kind.TheVariants as kinds
use Rattle.ts_model.specs.declared.def.Def.{Def}
use Rattle.ts_model.specs.declared.def.Def.TheVariants as defs
use Rattle.ts_model.specs.Definitions.{Definitions, KindDef, PatternDef, CalendarDef, kind_of, limit, to_def, from_def, of_pattern, table_of, at_slot, def_at}
use Rattle.ts_model.proofs.PartsLemmas.{back}
use Rattle.ts_layout.specs.Slot.{calendar_bytes, slot_bytes, def_bytes, page_of_slot}
use Rattle.ts_layout.specs.Meaning.{IsDef, IsSlotOf, IsPatternDef, bytes_of_slot}
use Rattle.ts_layout.proofs.CallerLemmas.{at_slot-map, page_low, page_high}
use Rattle.ts_container.specs.Reading.{AreWritten}
use Rattle.ts_container.specs.Survey.{HoldAllSlots}

-- what stands in a slot is one of the table's
within_table : {A : Type 0} (table : List (Option A)) (i : ℕ) (a : A) → at_slot i table ≡ Some a → i < length table
within_table table i a here =
    elim (cases_lt i (length table)) [
      | inl low ↦ low
      | inr high ↦ absurd (none_or (sym here ∙ get_or_past table i None high))
    ] where
      none_or : Some a ≡ None → ⊥
      none_or same = cc

-- what a function gives of each number below another
tabulate : {A : Type 0} → ℕ → (ℕ → A) → List A
tabulate zero f = []
tabulate (suc n) f = f 0 ∷ tabulate n (λ i. f (suc i))

length-tabulate : {A : Type 0} (n : ℕ) (f : ℕ → A) → length (tabulate n f) ≡ n
unfolding tabulate
length-tabulate zero f = refl
length-tabulate (suc n) f = ap suc (length-tabulate n (λ i. f (suc i)))

at-tabulate : {A : Type 0} (n : ℕ) (f : ℕ → Option A) (i : ℕ) → i < n → at_slot i (tabulate n f) ≡ f i
unfolding tabulate
at-tabulate zero f i within = absurd (omega (arith, within))
at-tabulate (suc n) f zero within = refl
at-tabulate (suc n) f (suc i) within = at-tabulate n (λ j. f (suc j)) i (omega (arith, within))

-- definitions of a kind, as a table of it and back
back_some : (kind : Kind) (o : Option Def) → IfSome o (λ d. kind_of d ≡ kind) → option_map (to_def kind) (option_and_then (from_def kind) o) ≡ o
back_some kind None is = refl
back_some kind (Some d) is = back kind d is

at-made : (kind : Kind) (n slot : ℕ) (f : ℕ → Option Def) → ((i : ℕ) → IfSome (f i) (λ d. kind_of d ≡ kind)) → slot < n
    → at_slot slot (map (option_map (to_def kind)) (tabulate n (λ i. option_and_then (from_def kind) (f i)))) ≡ f slot
at-made kind n slot f kinded within =
    at_slot-map (to_def kind) slot (tabulate n (λ i. option_and_then (from_def kind) (f i)))
    ∙ ap (option_map (to_def kind)) (at-tabulate n (λ i. option_and_then (from_def kind) (f i)) slot within) ∙ back_some kind (f slot) (kinded slot)

-- the pattern of the slot that a calendar says, where one stands there
plan_by : List (Option PatternDef) → Option ℕ → Plan → Plan
plan_by patterns None p = p
plan_by patterns (Some at) p = unwrap_or (option_map (λ (x : PatternDef). x.pattern) (at_slot at patterns)) p

with_plan : List (Option PatternDef) → Def → Def
with_plan patterns (defs.Calendar name c by) = defs.Calendar name (record c { pattern = plan_by patterns by c.pattern }) by
with_plan patterns other = other

-- it is written as before
with_plan_bytes : (patterns : List (Option PatternDef)) (def : Def) → def_bytes (with_plan patterns def) ≡ def_bytes def
unfolding with_plan plan_by calendar_bytes
with_plan_bytes patterns (defs.Calendar name c None) = refl
with_plan_bytes patterns (defs.Calendar name c (Some at)) = refl
with_plan_bytes patterns (defs.RowType name kind) = refl
with_plan_bytes patterns (defs.Pattern name pattern) = refl
with_plan_bytes patterns (defs.Container name row_type quota) = refl
with_plan_bytes patterns (defs.Series key container regular) = refl

with_plan_kind : (patterns : List (Option PatternDef)) (def : Def) → kind_of (with_plan patterns def) ≡ kind_of def
unfolding with_plan
with_plan_kind patterns (defs.Calendar name c by) = refl
with_plan_kind patterns (defs.RowType name kind) = refl
with_plan_kind patterns (defs.Pattern name pattern) = refl
with_plan_kind patterns (defs.Container name row_type quota) = refl
with_plan_kind patterns (defs.Series key container regular) = refl

-- and keeps its limits
plan_limits : (patterns : List (Option PatternDef)) (by : Option ℕ) (p : Plan) → ((i : ℕ) (x : PatternDef) → at_slot i patterns ≡ Some x → IsPatternDef x) → IsTrue (is_pattern p.runs) → IsTrue (is_pattern (plan_by patterns by p).runs)
unfolding plan_by
plan_limits patterns None p limits is = is
plan_limits patterns (Some at) p limits is = of_slot (at_slot at patterns) (λ x there. (limits at x there).runs) where
  of_slot : (o : Option PatternDef) → ((x : PatternDef) → o ≡ Some x → IsTrue (is_pattern x.pattern.runs)) → IsTrue (is_pattern (unwrap_or (option_map (λ (x : PatternDef). x.pattern) o) p).runs)
  of_slot None limits = is
  of_slot (Some x) limits = limits x refl

with_plan_limits : (format : ℕ) (patterns : List (Option PatternDef)) (def : Def) → ((i : ℕ) (x : PatternDef) → at_slot i patterns ≡ Some x → IsPatternDef x) → IsDef format def → IsDef format (with_plan patterns def)
unfolding with_plan
with_plan_limits format patterns (defs.Calendar name c by) limits is = record { name = is.name; start = is.start; patt_start = is.patt_start; runs = plan_limits patterns by c.pattern limits is.runs; by = is.by }
with_plan_limits format patterns (defs.RowType name kind) limits is = is
with_plan_limits format patterns (defs.Pattern name pattern) limits is = is
with_plan_limits format patterns (defs.Container name row_type quota) limits is = is
with_plan_limits format patterns (defs.Series key container regular) limits is = is

its_kind : (format : ℕ) (kind : Kind) (o : Option Def) → IsSlotOf format kind o → IfSome o (λ d. kind_of d ≡ kind)
its_kind format kind None is = tt
its_kind format kind (Some d) is = is.0

module _ (format : ℕ) (pages : ℕ → List ℕ) (all : HoldAllSlots format pages) where
  -- what the bytes of a slot say
  record Picked (kind : Kind) (slot : ℕ) : Type 0 where
    def : Option Def
    is : IsSlotOf format kind def
    bytes : slot < limit kind → bytes_of_slot kind slot pages ≡ slot_bytes kind def

  picked : (kind : Kind) (slot : ℕ) → Picked kind slot
  picked kind slot = elim (cases_lt slot (limit kind)) [
    | inl within ↦
        let held = (all (page_of_slot kind slot) (page_low kind slot) (page_high kind slot within)).slots kind slot within refl in
        record { def = held.0; is = held.1; bytes = λ _. held.2 }
    | inr past ↦ record { def = None; is = tt; bytes = λ within. absurd (omega (arith, within, past)) }
  ]

  table : (kind : Kind) → List (Option (KindDef kind))
  table kind = tabulate (limit kind) (λ slot. option_and_then (from_def kind) (picked kind slot).def)

  table_is : (kind : Kind) (slot : ℕ) → slot < limit kind → at_slot slot (map (option_map (to_def kind)) (table kind)) ≡ (picked kind slot).def
  unfolding table
  table_is kind slot within = at-made kind (limit kind) slot (λ i. (picked kind i).def) (λ i. its_kind format kind (picked kind i).def (picked kind i).is) within

  patterns_limited : (i : ℕ) (x : PatternDef) → at_slot i (table kinds.Pattern) ≡ Some x → IsPatternDef x
  unfolding table
  patterns_limited i x there =
      let low : i < 256 = omega (arith, within_table (table kinds.Pattern) i x there, length-tabulate 256 (λ slot. option_and_then (from_def kinds.Pattern) (picked kinds.Pattern slot).def)) in
      let is : (picked kinds.Pattern i).def ≡ Some (of_pattern x) = sym (table_is kinds.Pattern i low) ∙ at_slot-map of_pattern i (table kinds.Pattern) ∙ ap (option_map of_pattern) there in
      (subst (IsSlotOf format kinds.Pattern) is (picked kinds.Pattern i).is).1

  -- calendars with their patterns
  chosen : ℕ → Option Def
  chosen slot = option_map (with_plan (table kinds.Pattern)) (picked kinds.Calendar slot).def

  chosen_is : (slot : ℕ) → IsSlotOf format kinds.Calendar (chosen slot)
  unfolding chosen
  chosen_is slot = of_slot (picked kinds.Calendar slot).def (picked kinds.Calendar slot).is where
    of_slot : (o : Option Def) → IsSlotOf format kinds.Calendar o → IsSlotOf format kinds.Calendar (option_map (with_plan (table kinds.Pattern)) o)
    of_slot None is = tt
    of_slot (Some def) is = (with_plan_kind (table kinds.Pattern) def ∙ is.0, with_plan_limits format (table kinds.Pattern) def patterns_limited is.1)

  chosen_bytes : (slot : ℕ) → slot_bytes kinds.Calendar (chosen slot) ≡ slot_bytes kinds.Calendar (picked kinds.Calendar slot).def
  unfolding chosen
  chosen_bytes slot = of_slot (picked kinds.Calendar slot).def where
    of_slot : (o : Option Def) → slot_bytes kinds.Calendar (option_map (with_plan (table kinds.Pattern)) o) ≡ slot_bytes kinds.Calendar o
    of_slot None = refl
    of_slot (Some def) = with_plan_bytes (table kinds.Pattern) def

  calendars : List (Option CalendarDef)
  calendars = tabulate 256 (λ slot. option_and_then (from_def kinds.Calendar) (chosen slot))

  calendars_are : (slot : ℕ) → slot < 256 → at_slot slot (map (option_map (to_def kinds.Calendar)) calendars) ≡ chosen slot
  unfolding calendars
  calendars_are slot within = at-made kinds.Calendar 256 slot chosen (λ i. its_kind format kinds.Calendar (chosen i) (chosen_is i)) within

  -- a calendar by the name of a pattern has it
  their_pattern : (slot at : ℕ) (c : CalendarDef) (p : PatternDef) → at_slot slot calendars ≡ Some c → c.by ≡ Some at → at_slot at (table kinds.Pattern) ≡ Some p → c.calendar.pattern ≡ p.pattern
  unfolding calendars chosen with_plan plan_by
  their_pattern slot at c p there by pattern =
      let low : slot < 256 = omega (arith, within_table calendars slot c there, length-tabulate 256 (λ slot. option_and_then (from_def kinds.Calendar) (chosen slot))) in
      of_slot (picked kinds.Calendar slot).def (sym (at-tabulate 256 (λ i. option_and_then (from_def kinds.Calendar) (chosen i)) slot low) ∙ there) where
        of_by : (o : Option ℕ) (q : Plan) → o ≡ Some at → plan_by (table kinds.Pattern) o q ≡ p.pattern
        of_by None q is = absurd (cc)
        of_by (Some n) q is = let same : n ≡ at = cc in ap (λ (o : Option PatternDef). unwrap_or (option_map (λ (x : PatternDef). x.pattern) o) q) (ap (λ (k : ℕ). at_slot k (table kinds.Pattern)) same ∙ pattern)

        of_slot : (o : Option Def) → option_and_then (from_def kinds.Calendar) (option_map (with_plan (table kinds.Pattern)) o) ≡ Some c → c.calendar.pattern ≡ p.pattern
        of_slot None is = absurd (cc)
        of_slot (Some (defs.Calendar name x b)) is =
            let plan : c.calendar ≡ record x { pattern = plan_by (table kinds.Pattern) b x.pattern } = cc in
            let same : b ≡ c.by = cc in
            ap (λ (y : CalendarPlan). y.pattern) plan ∙ of_by b x.pattern (same ∙ by)
        of_slot (Some (defs.RowType name kind)) is = absurd (cc)
        of_slot (Some (defs.Pattern name x)) is = absurd (cc)
        of_slot (Some (defs.Container name row_type quota)) is = absurd (cc)
        of_slot (Some (defs.Series key container regular)) is = absurd (cc)

  -- what the pages say
  said : Definitions
  said = record {
    format = format;
    row_types = table kinds.RowType;
    patterns = table kinds.Pattern;
    calendars = calendars;
    containers = table kinds.Container;
    series = table kinds.Series;
  }

  -- in each slot
  of_table : (kind : Kind) (slot : ℕ) (o : Option Def) → o ≡ (picked kind slot).def → slot < limit kind → (IsSlotOf format kind o) × (bytes_of_slot kind slot pages ≡ slot_bytes kind o)
  of_table kind slot o same within = (subst (IsSlotOf format kind) (sym same) (picked kind slot).is, (picked kind slot).bytes within ∙ ap (slot_bytes kind) (sym same))

  stands : (kind : Kind) (slot : ℕ) → slot < limit kind → (IsSlotOf format kind (def_at kind slot said)) × (bytes_of_slot kind slot pages ≡ slot_bytes kind (def_at kind slot said))
  unfolding said
  stands kinds.RowType slot within = of_table kinds.RowType slot (def_at kinds.RowType slot said) (table_is kinds.RowType slot within) within
  stands kinds.Pattern slot within = of_table kinds.Pattern slot (def_at kinds.Pattern slot said) (table_is kinds.Pattern slot within) within
  stands kinds.Container slot within = of_table kinds.Container slot (def_at kinds.Container slot said) (table_is kinds.Container slot within) within
  stands kinds.Series slot within = of_table kinds.Series slot (def_at kinds.Series slot said) (table_is kinds.Series slot within) within
  stands kinds.Calendar slot within =
      let is = calendars_are slot within in (
        subst (IsSlotOf format kinds.Calendar) (sym is) (chosen_is slot),
        (picked kinds.Calendar slot).bytes within ∙ sym (chosen_bytes slot) ∙ ap (slot_bytes kinds.Calendar) (sym is),
      )

  said_sizes : (kind : Kind) → length (table_of kind said) ≡ limit kind
  unfolding said table calendars
  said_sizes kinds.RowType = length-tabulate 64 (λ slot. option_and_then (from_def kinds.RowType) (picked kinds.RowType slot).def)
  said_sizes kinds.Pattern = length-tabulate 256 (λ slot. option_and_then (from_def kinds.Pattern) (picked kinds.Pattern slot).def)
  said_sizes kinds.Calendar = length-tabulate 256 (λ slot. option_and_then (from_def kinds.Calendar) (chosen slot))
  said_sizes kinds.Container = length-tabulate 64 (λ slot. option_and_then (from_def kinds.Container) (picked kinds.Container slot).def)
  said_sizes kinds.Series = length-tabulate 4096 (λ slot. option_and_then (from_def kinds.Series) (picked kinds.Series slot).def)

  pub some_written : (s : Definitions) × AreWritten format pages s
  unfolding said
  some_written = (
    said,
    record {
      of_format = refl;
      sizes = said_sizes;
      bytes = record { slots = λ kind slot within. (stands kind slot within).1; behind = λ number low high. (all number low high).behind };
      limits = record { each = λ kind slot within. (stands kind slot within).0 };
      patterns = their_pattern;
    },
  )
