-- What definitions refer to, and the rules of definitions of which one slot is filled or emptied.
use Rattle.std.specs.Prelude.{Contains}
use Rattle.std.proofs.Common.{◌≡◌, ℕ, ℤ, zero, suc, ◌<◌, Option, Some, None, IsSome, List, [], ◌∷◌, map, refl, sym, ap, subst, ◌∙◌, arith, inl, inr}
use Rattle.std.specs.Option.{IfSome, option_map, option_and_then}
use Rattle.std.proofs.lemmas.Bool.{cases_lt}
use Rattle.std.proofs.lemmas.List.{get_or_past}
use Rattle.ts_row.specs.Row.{Heading}
use Rattle.ts_offset.specs.declared.shape.Shape.{Shape}
use Rattle.ts_offset.specs.declared.shape.Shape.TheVariants.{Regular}
use Rattle.ts_model.specs.declared.kind.Kind.{Kind}
use Rattle.ts_model.specs.declared.kind.Kind.TheVariants as kinds
use Rattle.ts_model.specs.declared.def.Def.{Def}
use Rattle.ts_model.specs.Definitions.{Definitions, RowTypeDef, PatternDef, CalendarDef, ContainerDef, SeriesDef, of_row_type, of_pattern, of_calendar, of_container, of_series, kind_of, limit, slots, at_slot, with_slot, references, pattern_reference, calendar_reference, Refers, IsUsed, IsDefinitions}
use Rattle.ts_model.proofs.PartsLemmas.{format-stays}
use Rattle.ts_layout.specs.Meaning.{IsDef, IsSlotOf, def_at, heading_at, shape_of, shape_at, KeepLimits, IsOnCalendar, IsThere, AreThere}
use Rattle.ts_layout.proofs.PlaceLemmas.{at_slot-map, def_at-with_slot, def_at-cleared, def_at-other}
use Rattle.ts_layout.proofs.SlotLemmas.{this_or_other, apart_by_rank, own, sizes}
use Rattle.ts_layout.proofs.LayoutLemmas.{none≢some, one_of, within_table}

-- each series that has columns has the same ones by other definitions
abbrev pub KeepColumns : Definitions → Definitions → Type 0
KeepColumns d d' = (slot : ℕ) (h : Heading) → heading_at d slot ≡ Some h → heading_at d' slot ≡ Some h

-- its elements can stand where they could
abbrev pub KeepShapes : Definitions → Definitions → Type 0
KeepShapes d d' = (slot : ℕ) (shape : Shape) → shape_at d slot ≡ Some shape → shape_at d' slot ≡ Some shape

pub empty_slot : {A B : Type 0} (f : A → B) (o : Option A) → option_map f o ≡ None → o ≡ None
empty_slot f None none = refl
empty_slot f (Some a) none = absurd (cc)

-- an empty slot of a table, seen as definitions
pub empty_in : {A : Type 0} (f : A → Def) (i : ℕ) (table : List (Option A)) → at_slot i (map (option_map f) table) ≡ None → at_slot i table ≡ None
empty_in f i table none = empty_slot f (at_slot i table) (sym (at_slot-map f i table) ∙ none)

-- a filled one
pub filled_in : {A : Type 0} (f : A → Def) (i : ℕ) (table : List (Option A)) (a : A) → at_slot i table ≡ Some a → at_slot i (map (option_map f) table) ≡ Some (f a)
filled_in f i table a here = at_slot-map f i table ∙ ap (option_map f) here

-- what is in a list of one, and in one that is longer
pub first_of : (x y : Kind × ℕ) (rest : List (Kind × ℕ)) → x ≡ y → Contains (x ∷ rest) y
first_of x y rest same = (0, omega arith, same)

pub further : (x y : Kind × ℕ) (rest : List (Kind × ℕ)) → Contains rest y → Contains (x ∷ rest) y
further x y rest there = let low = there.1 in (suc there.0, omega (arith, low), there.2)

pub some_in : {A : Type 0} (o : Option A) → IsSome o → (a : A) × (o ≡ Some a)
some_in None is = absurd (cc)
some_in (Some a) is = (a, refl)

-- each of the slots that are there is filled
pub each_there : (d : Definitions) (targets : List (Kind × ℕ)) (kind : Kind) (slot : ℕ) → IsThere d targets → (let target : Kind × ℕ = (kind, slot) in Contains targets target) → IsSome (def_at kind slot d)
each_there d [] kind slot there (k, below, is) = absurd (omega (arith, below))
each_there d (t ∷ rest) kind slot there (zero, below, is) = subst (λ (p : Kind × ℕ). IsSome (def_at p.0 p.1 d)) is there.0
each_there d (t ∷ rest) kind slot there (suc k, below, is) = each_there d rest kind slot there.1 (k, omega (arith, below), is)

-- a calendar that was made by a pattern's name refers to that pattern
pub calendar_target : (c : CalendarDef) (at : ℕ) → c.by ≡ Some at → Refers (of_calendar c) kinds.Pattern at
calendar_target c at is = subst (λ (by : Option ℕ). let target : Kind × ℕ = (kinds.Pattern, at) in Contains (pattern_reference by) target) (sym is) (first_of (kinds.Pattern, at) (kinds.Pattern, at) [] refl)

-- the pattern by whose name a calendar was made
pub calendar_refers : (d : Definitions) → IsDefinitions d → AreThere d → (i : ℕ) (c : CalendarDef) (at : ℕ) → at_slot i d.calendars ≡ Some c → c.by ≡ Some at → (p : PatternDef) × (at_slot at d.patterns ≡ Some p)
calendar_refers d rules there i c at here is =
    let within : i < 256 = omega (arith, within_table d.calendars i c here, rules.calendars.size) in
    let some = some_in (def_at kinds.Pattern at d) (each_there d (references (of_calendar c)) kinds.Pattern at (there kinds.Calendar i (of_calendar c) within (filled_in of_calendar i d.calendars c here)) (calendar_target c at is)) in
    let mine = own of_pattern at d.patterns some.0 some.1 in
    (mine.0, mine.1)

-- a container's row type
pub container_refers : (d : Definitions) → IsDefinitions d → AreThere d → (i : ℕ) (c : ContainerDef) → at_slot i d.containers ≡ Some c → (r : RowTypeDef) × (at_slot c.row_type d.row_types ≡ Some r)
container_refers d rules there i c here =
    let within : i < 64 = omega (arith, within_table d.containers i c here, rules.containers.size) in
    let some = some_in (def_at kinds.RowType c.row_type d) (there kinds.Container i (of_container c) within (filled_in of_container i d.containers c here)).0 in
    let mine = own of_row_type c.row_type d.row_types some.0 some.1 in
    (mine.0, mine.1)

-- a series' container
pub series_refers : (d : Definitions) → IsDefinitions d → AreThere d → (i : ℕ) (s : SeriesDef) → at_slot i d.series ≡ Some s → (c : ContainerDef) × (at_slot s.container d.containers ≡ Some c)
series_refers d rules there i s here =
    let within : i < 4096 = omega (arith, within_table d.series i s here, rules.series.size) in
    let some = some_in (def_at kinds.Container s.container d) (there kinds.Series i (of_series s) within (filled_in of_series i d.series s here)).0 in
    let mine = own of_container s.container d.containers some.0 some.1 in
    (mine.0, mine.1)

-- a regular series refers to its calendar
pub series_target : (s : SeriesDef) (at : ℕ) (origin : ℤ) → s.regular ≡ Some (at, origin) → Refers (of_series s) kinds.Calendar at
series_target s at origin is =
    subst (λ (regular : Option (ℕ × ℤ)). let target : Kind × ℕ = (kinds.Calendar, at) in Contains ((kinds.Container, s.container) ∷ calendar_reference regular) target) (sym is)
    (further (kinds.Container, s.container) (kinds.Calendar, at) ((kinds.Calendar, at) ∷ []) (first_of (kinds.Calendar, at) (kinds.Calendar, at) [] refl))

pub grid_refers : (d : Definitions) → IsDefinitions d → AreThere d → (i : ℕ) (s : SeriesDef) (at : ℕ) (origin : ℤ) → at_slot i d.series ≡ Some s → s.regular ≡ Some (at, origin) → (c : CalendarDef) × (at_slot at d.calendars ≡ Some c)
grid_refers d rules there i s at origin here is =
    let within : i < 4096 = omega (arith, within_table d.series i s here, rules.series.size) in
    let some = some_in (def_at kinds.Calendar at d) (each_there d (references (of_series s)) kinds.Calendar at (there kinds.Series i (of_series s) within (filled_in of_series i d.series s here)) (series_target s at origin is)) in
    let mine = own of_calendar at d.calendars some.0 some.1 in
    (mine.0, mine.1)

-- elements can stand at the same stamps where the calendar is the same
pub shape_same : (d d' : Definitions) (regular : Option (ℕ × ℤ)) → ((at : ℕ) (origin : ℤ) → regular ≡ Some (at, origin) → at_slot at d'.calendars ≡ at_slot at d.calendars) → shape_of d' regular ≡ shape_of d regular
shape_same d d' None same = refl
shape_same d d' (Some (at, origin)) same = ap (λ (o : Option CalendarDef). option_map Regular (option_map (λ (c : CalendarDef). record { calendar = c.calendar; origin = origin }) o)) (same at origin refl)

-- the origin of a series is an on start where its calendar is the same
pub origin_same : (d d' : Definitions) (regular : Option (ℕ × ℤ)) → ((at : ℕ) (origin : ℤ) → regular ≡ Some (at, origin) → at_slot at d'.calendars ≡ at_slot at d.calendars) → IfSome regular (IsOnCalendar d) → IfSome regular (IsOnCalendar d')
origin_same d d' None same is = tt
origin_same d d' (Some (at, origin)) same is = λ c here. is c (sym (same at origin refl) ∙ here)

-- what follows alike from each value that is there
pub and_then_same : {A B : Type 0} (f g : A → Option B) (o : Option A) → ((a : A) → o ≡ Some a → f a ≡ g a) → option_and_then f o ≡ option_and_then g o
and_then_same f g None same = refl
and_then_same f g (Some a) same = same a refl

-- a slot where something is, is one
pub within_kind : (d : Definitions) → IsDefinitions d → (kind : Kind) (slot : ℕ) → IsSome (def_at kind slot d) → slot < limit kind
within_kind d rules kind slot some =
    elim (cases_lt slot (limit kind)) [
      | inl low ↦ low
      | inr high ↦
          let there = some_in (def_at kind slot d) some in
          absurd (none≢some (def_at kind slot d) there.0 (get_or_past (slots kind d) slot None (omega (arith, high, sizes d rules kind))) there.1)
    ]

-- one slot filled
module _ (kind : Kind) (slot : ℕ) (def : Def) (d : Definitions) (within : slot < limit kind) (is : kind_of def ≡ kind) (rules : IsDefinitions d) where
  pub filled_here : def_at kind slot (with_slot kind slot (Some def) d) ≡ Some def
  filled_here = def_at-with_slot kind slot def d is (omega (arith, within, sizes d rules kind))

  pub limits_filled : IsDef d.format def → KeepLimits d → KeepLimits (with_slot kind slot (Some def) d)
  limits_filled good limits = record {
    each = λ kind' slot' within'. subst (λ (n : ℕ). IsSlotOf n kind' (def_at kind' slot' (with_slot kind slot (Some def) d))) (sym (format-stays kind slot (Some def) d)) (elim (this_or_other kind kind' slot slot' within within') [
      | inl this ↦
          subst (λ (p : Kind × ℕ). IsSlotOf d.format p.0 (def_at p.0 p.1 (with_slot kind slot (Some def) d))) (λ i. (sym this.0 i, sym this.1 i))
          (subst (IsSlotOf d.format kind) (sym filled_here) (is, good))
      | inr other ↦ subst (IsSlotOf d.format kind') (sym (def_at-other kind kind' slot slot' (Some def) d (apart_by_rank kind kind' slot slot' other))) (limits.each kind' slot' within')
    ]);
  }

  one_filled : (target : Kind × ℕ) → IsSome (def_at target.0 target.1 d) → IsSome (def_at target.0 target.1 (with_slot kind slot (Some def) d))
  one_filled target there =
      elim (this_or_other kind target.0 slot target.1 within (within_kind d rules target.0 target.1 there)) [
        | inl this ↦
            subst (λ (p : Kind × ℕ). IsSome (def_at p.0 p.1 (with_slot kind slot (Some def) d))) (λ i. (sym this.0 i, sym this.1 i))
            (subst (λ (o : Option Def). IsSome o) (sym filled_here) refl)
        | inr other ↦ subst (λ (o : Option Def). IsSome o) (sym (def_at-other kind target.0 slot target.1 (Some def) d (apart_by_rank kind target.0 slot target.1 other))) there
      ]

  there_filled : (targets : List (Kind × ℕ)) → IsThere d targets → IsThere (with_slot kind slot (Some def) d) targets
  there_filled [] there = tt
  there_filled (target ∷ rest) there = (one_filled target there.0, there_filled rest there.1)

  pub references_filled : IsThere d (references def) → AreThere d → AreThere (with_slot kind slot (Some def) d)
  references_filled refers there kind' slot' def' within' here =
      there_filled (references def')
      (elim (this_or_other kind kind' slot slot' within within') [
        | inl this ↦
            let again : def_at kind' slot' (with_slot kind slot (Some def) d) ≡ Some def =
            subst (λ (p : Kind × ℕ). def_at p.0 p.1 (with_slot kind slot (Some def) d) ≡ Some def) (λ i. (sym this.0 i, sym this.1 i)) filled_here in
            subst (λ (x : Def). IsThere d (references x)) (one_of (def_at kind' slot' (with_slot kind slot (Some def) d)) def def' again here) refers
        | inr other ↦ there kind' slot' def' within' (sym (def_at-other kind kind' slot slot' (Some def) d (apart_by_rank kind kind' slot slot' other)) ∙ here)
      ])

-- one slot emptied
module _ (kind : Kind) (slot : ℕ) (d : Definitions) (within : slot < limit kind) (rules : IsDefinitions d) where
  pub cleared_here : def_at kind slot (with_slot kind slot None d) ≡ None
  cleared_here = def_at-cleared kind slot d (omega (arith, within, sizes d rules kind))

  pub limits_cleared : KeepLimits d → KeepLimits (with_slot kind slot None d)
  limits_cleared limits = record {
    each = λ kind' slot' within'. subst (λ (n : ℕ). IsSlotOf n kind' (def_at kind' slot' (with_slot kind slot None d))) (sym (format-stays kind slot None d)) (elim (this_or_other kind kind' slot slot' within within') [
      | inl this ↦
          subst (λ (p : Kind × ℕ). IsSlotOf d.format p.0 (def_at p.0 p.1 (with_slot kind slot None d))) (λ i. (sym this.0 i, sym this.1 i))
          (subst (IsSlotOf d.format kind) (sym cleared_here) tt)
      | inr other ↦ subst (IsSlotOf d.format kind') (sym (def_at-other kind kind' slot slot' None d (apart_by_rank kind kind' slot slot' other))) (limits.each kind' slot' within')
    ]);
  }

  one_cleared : (target : Kind × ℕ) → (target ≡ (kind, slot) → ⊥) → IsSome (def_at target.0 target.1 d) → IsSome (def_at target.0 target.1 (with_slot kind slot None d))
  one_cleared target free there =
      elim (this_or_other kind target.0 slot target.1 within (within_kind d rules target.0 target.1 there)) [
        | inl this ↦ absurd (free (λ i. (this.0 i, this.1 i)))
        | inr other ↦ subst (λ (o : Option Def). IsSome o) (sym (def_at-other kind target.0 slot target.1 None d (apart_by_rank kind target.0 slot target.1 other))) there
      ]

  there_cleared : (targets : List (Kind × ℕ)) → (Contains targets (kind, slot) → ⊥) → IsThere d targets → IsThere (with_slot kind slot None d) targets
  there_cleared [] free there = tt
  there_cleared (target ∷ rest) free there = (
    one_cleared target (λ same. free (first_of target (kind, slot) rest same)) there.0,
    there_cleared rest (λ more. free (further target (kind, slot) rest more)) there.1,
  )

  pub references_cleared : (IsUsed kind slot d → ⊥) → AreThere d → AreThere (with_slot kind slot None d)
  references_cleared unused there kind' slot' def' within' here =
      elim (this_or_other kind kind' slot slot' within within') [
        | inl this ↦
            let again : def_at kind' slot' (with_slot kind slot None d) ≡ None =
            subst (λ (p : Kind × ℕ). def_at p.0 p.1 (with_slot kind slot None d) ≡ None) (λ i. (sym this.0 i, sym this.1 i)) cleared_here in
            absurd (none≢some (def_at kind' slot' (with_slot kind slot None d)) def' again here)
        | inr other ↦
            let before : def_at kind' slot' d ≡ Some def' = sym (def_at-other kind kind' slot slot' None d (apart_by_rank kind kind' slot slot' other)) ∙ here in
            there_cleared (references def') (λ refers. unused (kind', (slot', def', within', before, refers))) (there kind' slot' def' within' before)
      ]
