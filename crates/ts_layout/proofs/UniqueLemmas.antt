-- Pages hold one definition in each slot.
use Rattle.std.proofs.Common.{◌≡◌, ◌≢◌, ℕ, suc, ◌<◌, ◌≤◌, Option, Some, None, List, [], ◌∷◌, map, length, refl, sym, ap, subst, ◌∙◌, arith, inl, inr}
use Rattle.std.specs.Option.{option_map}
use Rattle.std.proofs.lemmas.Bool.{cases_lt}
use Rattle.std.proofs.lemmas.List.{get_or_past}
use Rattle.ts_model.specs.declared.kind.Kind.{Kind}
use Rattle.ts_model.specs.declared.kind.Kind.TheVariants as kinds
use Rattle.ts_model.specs.declared.def.Def.{Def}
use Rattle.ts_model.specs.Definitions.{Definitions, limit, at_slot, of_row_type, of_pattern, of_calendar, table_of, references, IsDefinitions}
use Rattle.ts_model.proofs.PartsLemmas.{all-tables, table-rules, same_or_other}
use Rattle.ts_layout.specs.Slot.{slot_bytes}
use Rattle.ts_layout.specs.Meaning.{IsSlotOf, def_at, IsThere, AreThere, HoldsDefinitions, KeepLimits, AreThereIn, AreFollowing}
use Rattle.ts_layout.proofs.PlaceLemmas.{at_slot-map}
use Rattle.ts_layout.proofs.SlotBytesLemmas.{slot_one, calendar_slot_one}
use Rattle.ts_layout.proofs.SlotLemmas.{own, same_in}

-- tables that are the same slot by slot
same_table : {A : Type 0} (t u : List (Option A)) → length t ≡ length u → ((i : ℕ) → at_slot i t ≡ at_slot i u) → t ≡ u
same_table [] [] long same = refl
same_table [] (p ∷ u) long same = absurd (omega arith)
same_table (o ∷ t) [] long same = absurd (omega arith)
same_table (o ∷ t) (p ∷ u) long same =
    let first : o ≡ p = same 0 in
    let others : t ≡ u = same_table t u (omega (arith, long)) (λ i. same (suc i)) in
    λ j. first j ∷ others j

-- definitions that keep their limits, in pages; each calendar follows the patterns
pub record AreInPages (pages : ℕ → List ℕ) (d : Definitions) : Type 0 where
  pub holds : HoldsDefinitions pages d
  pub limits : KeepLimits d
  pub rules : IsDefinitions d
  pub follow : AreFollowing d

-- no slot is past the last
none_past : (d : Definitions) → IsDefinitions d → (kind : Kind) (i : ℕ) → limit kind ≤ i → at_slot i (table_of kind d) ≡ None
none_past d rules kind i past = get_or_past (table_of kind d) i None (omega (arith, past, (table-rules d rules kind).size))

module _ (pages : ℕ → List ℕ) (d e : Definitions) (here : AreInPages pages d) (there : AreInPages pages e) where
  -- slots have the same bytes
  same_bytes : (kind : Kind) (i : ℕ) → i < limit kind → slot_bytes kind (def_at kind i d) ≡ slot_bytes kind (def_at kind i e)
  same_bytes kind i within = sym (here.holds.slots kind i within) ∙ there.holds.slots kind i within

  -- what stands in a slot is the same, but for calendars
  same_def : (kind : Kind) → kind ≢ kinds.Calendar → (i : ℕ) → at_slot i (table_of kind d) ≡ at_slot i (table_of kind e)
  same_def kind other i = elim (cases_lt i (limit kind)) [
    | inl within ↦
        same_in kind i (table_of kind d) (table_of kind e)
        (slot_one d.format e.format kind (def_at kind i d) (def_at kind i e) other (here.limits.each kind i within) (there.limits.each kind i within) (same_bytes kind i within))
    | inr past ↦ none_past d here.rules kind i past ∙ sym (none_past e there.rules kind i past)
  ]

  -- so calendars have the same pattern to follow
  same_calendar : (i : ℕ) → at_slot i d.calendars ≡ at_slot i e.calendars
  same_calendar i = elim (cases_lt i 256) [
    | inl within ↦
        let first = at_slot-map of_calendar i d.calendars in
        let second = at_slot-map of_calendar i e.calendars in
        let P : Definitions → Option Def → Type 0 = λ x. IsSlotOf x.format kinds.Calendar in
        calendar_slot_one d.format e.format d.patterns e.patterns (at_slot i d.calendars) (at_slot i e.calendars)
        (subst (P d) first (here.limits.each kinds.Calendar i within)) (subst (P e) second (there.limits.each kinds.Calendar i within))
        (here.follow i) (there.follow i) (same_def kinds.Pattern (λ same. cc))
        (ap (slot_bytes kinds.Calendar) (sym first) ∙ same_bytes kinds.Calendar i within ∙ ap (slot_bytes kinds.Calendar) second)
    | inr past ↦ none_past d here.rules kinds.Calendar i past ∙ sym (none_past e there.rules kinds.Calendar i past)
  ]

  same_slot : (kind : Kind) (i : ℕ) → at_slot i (table_of kind d) ≡ at_slot i (table_of kind e)
  same_slot kind i = elim (same_or_other kind kinds.Calendar) [
    | inl same ↦ subst (λ (k : Kind). at_slot i (table_of k d) ≡ at_slot i (table_of k e)) (sym same) (same_calendar i)
    | inr other ↦ same_def kind other i
  ]

  -- pages hold one list of definitions of a format
  pub unique : d.format ≡ e.format → d ≡ e
  unique format =
      all-tables d e format (λ kind. same_table (table_of kind d) (table_of kind e) ((table-rules d here.rules kind).size ∙ sym (table-rules e there.rules kind).size) (same_slot kind))

-- row types and patterns refer to nothing
nothing_there : {A : Type 0} (f : A → Def) (slot : ℕ) (table : List (Option A)) (def : Def) (d : Definitions) → ((a : A) → references (f a) ≡ []) → at_slot slot (map (option_map f) table) ≡ Some def → IsThere d (references def)
nothing_there f slot table def d none is = let own' = own f slot table def is in subst (IsThere d) (sym (none own'.0) ∙ ap references own'.2) tt

-- each definition refers to something where those of calendars, containers and series do
pub all_there : (d : Definitions) → AreThereIn kinds.Calendar d → AreThereIn kinds.Container d → AreThereIn kinds.Series d → AreThere d
all_there d calendars containers series kinds.RowType slot def within is = nothing_there of_row_type slot d.row_types def d (λ r. refl) is
all_there d calendars containers series kinds.Pattern slot def within is = nothing_there of_pattern slot d.patterns def d (λ p. refl) is
all_there d calendars containers series kinds.Calendar slot def within is = calendars slot def within is
all_there d calendars containers series kinds.Container slot def within is = containers slot def within is
all_there d calendars containers series kinds.Series slot def within is = series slot def within is
