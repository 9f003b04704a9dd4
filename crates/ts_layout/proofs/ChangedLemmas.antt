-- A layout of which one slot is filled with a new definition, or emptied where nothing refers to it: it keeps the rules, and its
-- catalogue has one name more, or one fewer.
use Rattle.std.specs.Prelude.{Contains}
use Rattle.std.proofs.Common.{◌≡◌, ℕ, ℤ, ◌+◌, ◌<◌, ◌≤◌, Option, Some, None, List, [], length, set, refl, sym, ap, subst, ◌∙◌, arith, inl, inr, ◌⊎◌, zero-add}
use Rattle.std.specs.Option.{IfSome, option_map, option_and_then}
use Rattle.std.specs.FinMap.{insert, remove}
use Rattle.std.proofs.lemmas.Bool.{cases_eq}
use Rattle.std.proofs.lemmas.List.Sums.{sum_by-set}
use Rattle.ts_cells.specs.IrregularPage.{page_room}
use Rattle.ts_calendar.specs.Calendars.{IsValid}
use Rattle.ts_model.specs.declared.kind.Kind.{Kind}
use Rattle.ts_model.specs.declared.kind.Kind.TheVariants as kinds
use Rattle.ts_model.specs.declared.def.Def.{Def}
use Rattle.ts_model.specs.declared.def.Def.TheVariants as defs
use Rattle.ts_model.specs.Catalogue.{HasNoPages, with_named, without}
use Rattle.ts_model.specs.Definitions.{Definitions, RowTypeDef, PatternDef, CalendarDef, ContainerDef, SeriesDef, KindDef, of_calendar, of_series, calendar_reference, kind_of, to_def, from_def, table_of, name_of, name_in, limit, slots, slot_of, at_slot, with_slot, with_table, by_name, references, Refers, IsUsed, IsTable, IsFormat, IsDefinitions}
use Rattle.ts_model.proofs.PartsLemmas.{forth, table-here, table-other, same_or_other, table-rules, all-rules, format-stays}
use Rattle.ts_model.proofs.SlotLemmas.{by_name-clear}
use Rattle.ts_layout.specs.Meaning.{Layout, ElementPage, Cells, def_at, heading_of_container, heading_in, heading_at, shape_of, shape_at, quota_in, sum_of_quotas, sum_filled, charge_of_series, IsInSequence, AreAllInSequence, KeepsQuotas, IsOnCalendar, HaveOrigins, Follows, AreFollowing, AreValid, AreSound, IsSound, value_of, named_in, catalogue_of}
use Rattle.ts_layout.specs.Changed.{layout_with, granted, KeepsElements, HasNoPage, KeepsCalendarRules, HasOrigin, CanMake, CanDrop}
use Rattle.ts_layout.proofs.PlaceLemmas.{def_at-other}
use Rattle.ts_layout.proofs.SlotLemmas.{same_in}
use Rattle.ts_layout.proofs.LayoutLemmas.{none≢some, one_of, within_table}
use Rattle.ts_layout.proofs.FilledLemmas.{at_filled, at_cleared, table_filled, table_cleared, by_name_same, no_such_name, slot_there, by_name_filled}
use Rattle.ts_layout.proofs.ReferLemmas.{KeepColumns, KeepShapes, empty_in, filled_in, some_in, first_of, each_there, calendar_target, series_target, shape_same, origin_same, and_then_same, filled_here, limits_filled, references_filled, cleared_here, limits_cleared, references_cleared}
use Rattle.ts_layout.proofs.ValueLemmas.{same_value, catalogue_with, catalogue_without, no_charge, no_sequence_in, no_series_charge, sum_filled_less}

-- a definition as one of its kind
pub as_own : (def : Def) → (a : KindDef (kind_of def)) × (to_def (kind_of def) a ≡ def)
as_own (defs.RowType name h) = (record { name = name; heading = h }, refl)
as_own (defs.Pattern name pattern) = (record { name = name; pattern = pattern }, refl)
as_own (defs.Calendar name calendar by) = (record { name = name; calendar = calendar; by = by }, refl)
as_own (defs.Container name row_type quota) = (record { name = name; row_type = row_type; quota = quota }, refl)
as_own (defs.Series key container regular) = (record { key = key; container = container; regular = regular }, refl)

-- a kind without pages is another than that of series
not_series : (kind : Kind) → HasNoPages kind → kind ≡ kinds.Series → ⊥
not_series kind none is = subst HasNoPages is none

-- what containers are charged then: no more, where a series that changes has no page
charged_less : (kind : Kind) (slot : ℕ) (o : Option Def) (d : Definitions) (pages : List ElementPage) (container room : ℕ) → (kind ≡ kinds.Series → HasNoPage slot pages)
    → sum_filled (charge_of_series pages container room) 0 (with_slot kind slot o d).series ≤ sum_filled (charge_of_series pages container room) 0 d.series
charged_less kinds.RowType slot o d pages container room none = omega arith
charged_less kinds.Pattern slot o d pages container room none = omega arith
charged_less kinds.Calendar slot o d pages container room none = omega arith
charged_less kinds.Container slot o d pages container room none = omega arith
charged_less kinds.Series slot o d pages container room none =
    sum_filled_less (charge_of_series pages container room) 0 slot (option_and_then (from_def kinds.Series) o) d.series (λ s.
    ap (λ (n : ℕ). charge_of_series pages container room n s) (zero-add slot) ∙ no_series_charge pages container room slot s (none refl))

-- what all containers are granted then: what is granted anew, and no more
granted_then : (kind : Kind) (slot : ℕ) (o : Option Def) (d : Definitions) → slot < limit kind → IsDefinitions d → sum_of_quotas (with_slot kind slot o d).containers ≤ sum_of_quotas d.containers + granted o
granted_then kinds.RowType slot o d within rules = omega arith
granted_then kinds.Pattern slot o d within rules = omega arith
granted_then kinds.Calendar slot o d within rules = omega arith
granted_then kinds.Container slot o d within rules =
    let inside : slot < length d.containers = omega (arith, within, rules.containers.size) in
    let sums = sum_by-set quota_in d.containers slot (option_and_then (from_def kinds.Container) o) None inside in
    omega (arith, sums)
granted_then kinds.Series slot o d within rules = omega arith

-- a slot to which nothing refers changes; a series that changes is new, and has no page
module _ (kind : Kind) (slot : ℕ) (o : Option Def) (l : Layout) (sound : IsSound l) (unused : IsUsed kind slot l.definitions → ⊥)
    (pageless : kind ≡ kinds.Series → (at_slot slot l.definitions.series ≡ None) × HasNoPage slot l.element_pages) where
  abbrev then_defs : Definitions
  then_defs = with_slot kind slot o l.definitions

  -- what definitions refer to stays
  pub target_stays : (user : Kind) (i : ℕ) (a : KindDef user) → at_slot i (table_of user l.definitions) ≡ Some a → (target : Kind) (at : ℕ) → Refers (to_def user a) target at
      → at_slot at (table_of target then_defs) ≡ at_slot at (table_of target l.definitions)
  target_stays user i a here target at refers =
      let low : i < limit user = omega (arith, within_table (table_of user l.definitions) i a here, (table-rules l.definitions sound.definitions.tables user).size) in
      same_in target at (table_of target then_defs) (table_of target l.definitions)
      (def_at-other kind target slot at o l.definitions (λ same_kind same_slot.
      unused (user, (i, to_def user a, low, filled_in (to_def user) i (table_of user l.definitions) a here, subst (λ (p : Kind × ℕ). Contains (references (to_def user a)) p) (λ j. (same_kind j, same_slot j)) refers))))

  pub value_stays : (user : Kind) (i : ℕ) (a : KindDef user) → at_slot i (table_of user l.definitions) ≡ Some a → value_of user (layout_with kind slot o l) i a ≡ value_of user l i a
  value_stays user i a here = same_value user l then_defs i a (target_stays user i a here)

  pub heading_stays : (i : ℕ) (c : ContainerDef) → at_slot i l.definitions.containers ≡ Some c → heading_of_container then_defs c ≡ heading_of_container l.definitions c
  heading_stays i c here = ap (option_map (λ (r : RowTypeDef). r.heading)) (target_stays kinds.Container i c here kinds.RowType c.row_type (first_of (kinds.RowType, c.row_type) (kinds.RowType, c.row_type) [] refl))

  series_heading_stays : (i : ℕ) (s : SeriesDef) → at_slot i l.definitions.series ≡ Some s → heading_in then_defs s.container ≡ heading_in l.definitions s.container
  series_heading_stays i s here =
      ap (option_and_then (heading_of_container then_defs)) (target_stays kinds.Series i s here kinds.Container s.container (first_of (kinds.Container, s.container) (kinds.Container, s.container) (calendar_reference s.regular) refl))
      ∙ and_then_same (heading_of_container then_defs) (heading_of_container l.definitions) (at_slot s.container l.definitions.containers) (λ c there. heading_stays s.container c there)

  -- so does the calendar of a series
  calendar_stays : (i : ℕ) (s : SeriesDef) → at_slot i l.definitions.series ≡ Some s → (at : ℕ) (origin : ℤ) → s.regular ≡ Some (at, origin) → at_slot at then_defs.calendars ≡ at_slot at l.definitions.calendars
  calendar_stays i s here at origin is = target_stays kinds.Series i s here kinds.Calendar at (series_target s at origin is)

  series_stays : (s : ℕ) → (kind ≡ kinds.Series → s ≡ slot → ⊥) → at_slot s then_defs.series ≡ at_slot s l.definitions.series
  series_stays s other = same_in kinds.Series s then_defs.series l.definitions.series (def_at-other kind kinds.Series slot s o l.definitions (λ same_kind same_slot. other (sym same_kind) same_slot))

  shapes_stay : (s : ℕ) → (kind ≡ kinds.Series → s ≡ slot → ⊥) → shape_at then_defs s ≡ shape_at l.definitions s
  shapes_stay s other =
      ap (option_and_then (λ (x : SeriesDef). shape_of then_defs x.regular)) (series_stays s other)
      ∙ and_then_same (λ (x : SeriesDef). shape_of then_defs x.regular) (λ (x : SeriesDef). shape_of l.definitions x.regular) (at_slot s l.definitions.series) (λ x here. shape_same l.definitions then_defs x.regular (calendar_stays s x here))

  columns_stay : (s : ℕ) → (kind ≡ kinds.Series → s ≡ slot → ⊥) → heading_at then_defs s ≡ heading_at l.definitions s
  columns_stay s other =
      ap (option_and_then (λ (x : SeriesDef). heading_in then_defs x.container)) (series_stays s other)
      ∙ and_then_same (λ (x : SeriesDef). heading_in then_defs x.container) (λ (x : SeriesDef). heading_in l.definitions x.container) (at_slot s l.definitions.series) (λ x here. series_heading_stays s x here)

  pub changed_elements : KeepsElements then_defs l
  changed_elements = record {
    headings = λ i s sheet is. columns_stay s (λ series same. (pageless series).1 i sheet (is ∙ ap (λ (n : ℕ). Cells n sheet) same));
    shapes = λ i s sheet is. shapes_stay s (λ series same. (pageless series).1 i sheet (is ∙ ap (λ (n : ℕ). Cells n sheet) same));
  }

  pub changed_columns : KeepColumns l.definitions then_defs
  changed_columns s heading there =
      columns_stay s (λ series same.
      none≢some (heading_at l.definitions slot) heading (ap (option_and_then (λ (x : SeriesDef). heading_in l.definitions x.container)) (pageless series).0) (ap (heading_at l.definitions) (sym same) ∙ there))
      ∙ there

  pub changed_shapes : KeepShapes l.definitions then_defs
  changed_shapes s shape there =
      shapes_stay s (λ series same.
      none≢some (shape_at l.definitions slot) shape (ap (option_and_then (λ (x : SeriesDef). shape_of l.definitions x.regular)) (pageless series).0) (ap (shape_at l.definitions) (sym same) ∙ there))
      ∙ there

  -- what stands in a slot was there, or is the new one
  pub filled_before : (k : Kind) (i : ℕ) (a : KindDef k) → at_slot i (table_of k then_defs) ≡ Some a → (at_slot i (table_of k l.definitions) ≡ Some a) ⊎ ((kind ≡ k) × (i ≡ slot))
  filled_before k i a here =
      let other : (k ≡ kind → i ≡ slot → ⊥) → at_slot i (table_of k l.definitions) ≡ Some a =
      λ differs. sym (same_in k i (table_of k then_defs) (table_of k l.definitions) (def_at-other kind k slot i o l.definitions differs)) ∙ here in
      elim (cases_eq i slot) [
        | inl at ↦ elim (same_or_other k kind) [
          | inl same ↦ inr (sym same, at)
          | inr differs ↦ inl (other (λ same at'. differs same))
        ]
        | inr elsewhere ↦ inl (other (λ same at. elsewhere at))
      ]

  -- in a new container no series stands
  pub no_series_stands : kind ≡ kinds.Container → (i : ℕ) (s : SeriesDef) → at_slot i l.definitions.series ≡ Some s → s.container ≡ slot → ⊥
  no_series_stands is i s here same =
      let low : i < limit kinds.Series = omega (arith, within_table l.definitions.series i s here, sound.definitions.tables.series.size) in
      unused (kinds.Series, (i, to_def kinds.Series s, low, filled_in (to_def kinds.Series) i l.definitions.series s here, first_of (kinds.Container, s.container) (kind, slot) (calendar_reference s.regular) (λ j. (sym is j, same j))))

  changed_charges : KeepsQuotas (layout_with kind slot o l)
  changed_charges i c head here heading =
      let less = charged_less kind slot o l.definitions l.element_pages i (page_room head.columns) (λ series. (pageless series).1) in
      elim (filled_before kinds.Container i c here) [
        | inl old ↦
            let before = sound.charges i c head old (sym (heading_stays i c old) ∙ heading) in
            omega (arith, less, before)
        | inr new ↦
            let none = no_charge l.element_pages i (page_room head.columns) 0 l.definitions.series (λ k s there same. no_series_stands new.0 k s there (same ∙ new.1)) in
            omega (arith, less, none)
      ]

  -- a calendar that was there follows its pattern then, and so each does where the new one does
  pub changed_follow : ((c : CalendarDef) → kind ≡ kinds.Calendar → at_slot slot then_defs.calendars ≡ Some c → Follows then_defs.patterns c) → AreFollowing then_defs
  changed_follow new i c here = elim (filled_before kinds.Calendar i c here) [
    | inl old ↦ λ at by. ap (option_map (λ (p : PatternDef). p.pattern)) (target_stays kinds.Calendar i c old kinds.Pattern at (calendar_target c at by)) ∙ sound.definitions.follow i c old at by
    | inr is ↦ new c is.0 (ap (λ (n : ℕ). at_slot n then_defs.calendars) (sym is.1) ∙ here)
  ]

  pub changed_valid : ((c : CalendarDef) → kind ≡ kinds.Calendar → at_slot slot then_defs.calendars ≡ Some c → IsValid c.calendar) → AreValid then_defs
  changed_valid new i c here = elim (filled_before kinds.Calendar i c here) [
    | inl old ↦ sound.definitions.valid i c old
    | inr is ↦ new c is.0 (ap (λ (n : ℕ). at_slot n then_defs.calendars) (sym is.1) ∙ here)
  ]

  -- and so the origin of each series is an on start, where that of the new one is
  pub changed_origins : ((s : SeriesDef) → kind ≡ kinds.Series → at_slot slot then_defs.series ≡ Some s → IfSome s.regular (IsOnCalendar then_defs)) → HaveOrigins then_defs
  changed_origins new i s here = elim (filled_before kinds.Series i s here) [
    | inl old ↦ origin_same l.definitions then_defs s.regular (calendar_stays i s old) (sound.definitions.origins i s old)
    | inr is ↦ new s is.0 (ap (λ (n : ℕ). at_slot n then_defs.series) (sym is.1) ∙ here)
  ]

  changed_sequences : AreAllInSequence (layout_with kind slot o l)
  changed_sequences s h shape there lies =
      let as_before : (kind ≡ kinds.Series → s ≡ slot → ⊥) → IsInSequence shape s h.columns l.element_pages =
      λ other. sound.sequences s h shape (sym (columns_stay s other) ∙ there) (sym (shapes_stay s other) ∙ lies) in
      elim (cases_eq s slot) [
        | inl same ↦ elim (same_or_other kinds.Series kind) [
          | inl is ↦ no_sequence_in shape s h.columns l.element_pages (subst (λ (n : ℕ). HasNoPage n l.element_pages) (sym same) (pageless (sym is)).1)
          | inr differs ↦ as_before (λ series at. differs (sym series))
        ]
        | inr other ↦ as_before (λ series at. other at)
      ]

  pub changed_sound : AreSound (length l.element_pages) then_defs → IsSound (layout_with kind slot o l)
  changed_sound rules = record { some = sound.some; most = sound.most; definitions = rules; sequences = changed_sequences; charges = changed_charges }

  pub others_named : (k : Kind) → (k ≡ kind → ⊥) → named_in k (layout_with kind slot o l) ≡ named_in k l
  others_named k differs =
      ap (by_name (name_in k) (value_of k (layout_with kind slot o l))) (table-other kind k (set (table_of kind l.definitions) slot (option_and_then (from_def kind) o)) l.definitions differs)
      ∙ by_name_same (name_in k) (value_of k (layout_with kind slot o l)) (value_of k l) (table_of k l.definitions) (λ i b here. value_stays k i b here)

-- the tables, of which one changes
changed_tables : (kind : Kind) (table : List (Option (KindDef kind))) (d : Definitions) → IsDefinitions d → IsTable (name_in kind) (limit kind) table → (k : Kind) → IsTable (name_in k) (limit k) (table_of k (with_table kind table d))
changed_tables kind table d rules own k = elim (same_or_other k kind) [
  | inl same ↦ subst (λ (x : Kind). IsTable (name_in x) (limit x) (table_of x (with_table kind table d))) (sym same) (subst (IsTable (name_in kind) (limit kind)) (sym (table-here kind table d)) own)
  | inr differs ↦ subst (IsTable (name_in k) (limit k)) (sym (table-other kind k table d differs)) (table-rules d rules k)
]

-- a definition is made
module _ (slot : ℕ) (def : Def) (l : Layout) (sound : IsSound l) (can : CanMake slot def l) where
  abbrev kind : Kind
  kind = kind_of def

  made_within : slot < length (table_of kind l.definitions)
  made_within = omega (arith, can.fits.within, (table-rules l.definitions sound.definitions.tables kind).size)

  pub made_unused : IsUsed kind slot l.definitions → ⊥
  made_unused (user, (i, other, low, here, refers)) =
      let filled = some_in (def_at kind slot l.definitions) (each_there l.definitions (references other) kind slot (sound.definitions.references user i other low here) refers) in
      none≢some (def_at kind slot l.definitions) filled.0 can.fits.empty filled.1

  pub made_pageless : kind ≡ kinds.Series → (at_slot slot l.definitions.series ≡ None) × HasNoPage slot l.element_pages
  made_pageless series =
      (empty_in (to_def kinds.Series) slot l.definitions.series (subst (λ (k : Kind). def_at k slot l.definitions ≡ None) series can.fits.empty), can.pageless series)

  made_table : (a : KindDef kind) → to_def kind a ≡ def → IsTable (name_in kind) (limit kind) (set (table_of kind l.definitions) slot (Some a))
  made_table a is =
      table_filled (name_in kind) (limit kind) slot a (table_of kind l.definitions) can.fits.within (table-rules l.definitions sound.definitions.tables kind)
      (no_such_name (name_in kind) (to_def kind) (λ x. refl) (table_of kind l.definitions) (name_in kind a) (ap (λ (n : List ℕ). slot_of n (slots kind l.definitions)) (ap name_of is) ∙ can.fits.new))

  as_made : (a : KindDef kind) → to_def kind a ≡ def → from_def kind def ≡ Some a
  as_made a is = ap (from_def kind) (sym is) ∙ forth kind a

  -- what it refers to stands there before and after
  made_targets : (target : Kind) (at : ℕ) → Refers def target at → at_slot at (table_of target (with_slot kind slot (Some def) l.definitions)) ≡ at_slot at (table_of target l.definitions)
  made_targets target at refers =
      same_in target at (table_of target (with_slot kind slot (Some def) l.definitions)) (table_of target l.definitions)
      (def_at-other kind target slot at (Some def) l.definitions (λ same_kind same_slot.
      let filled = some_in (def_at target at l.definitions) (each_there l.definitions (references def) target at can.fits.refers refers) in
      none≢some (def_at target at l.definitions) filled.0 ((λ j. def_at (same_kind j) (same_slot j) l.definitions) ∙ can.fits.empty) filled.1))

  -- what stands in the slot then is the definition; a calendar keeps the rules of calendars
  made_def : (k : Kind) (a : KindDef k) → kind ≡ k → at_slot slot (table_of k (with_slot kind slot (Some def) l.definitions)) ≡ Some a → def ≡ to_def k a
  made_def k a is here =
      one_of (def_at kind slot (with_slot kind slot (Some def) l.definitions)) def (to_def k a) (filled_here kind slot def l.definitions can.fits.within refl sound.definitions.tables)
      (ap (λ (x : Kind). def_at x slot (with_slot kind slot (Some def) l.definitions)) is ∙ filled_in (to_def k) slot (table_of k (with_slot kind slot (Some def) l.definitions)) a here)

  made_valid : (c : CalendarDef) → def ≡ of_calendar c → IsValid c.calendar × Follows l.definitions.patterns c
  made_valid c is = subst (λ (x : Def). KeepsCalendarRules x l.definitions) is can.fits.valid

  made_follow : (c : CalendarDef) → def ≡ of_calendar c → Follows (with_slot kind slot (Some def) l.definitions).patterns c
  made_follow c is at by =
      ap (option_map (λ (p : PatternDef). p.pattern)) (made_targets kinds.Pattern at (subst (λ (x : Def). Refers x kinds.Pattern at) (sym is) (calendar_target c at by))) ∙ (made_valid c is).1 at by

  -- and a series has its origin
  made_origin : (s : SeriesDef) → def ≡ of_series s → IfSome s.regular (IsOnCalendar (with_slot kind slot (Some def) l.definitions))
  made_origin s is =
      origin_same l.definitions (with_slot kind slot (Some def) l.definitions) s.regular
      (λ at origin lies. made_targets kinds.Calendar at (subst (λ (x : Def). Refers x kinds.Calendar at) (sym is) (series_target s at origin lies)))
      (subst (λ (x : Def). HasOrigin x l.definitions) is can.fits.origin)

  made_rules : AreSound (length l.element_pages) (with_slot kind slot (Some def) l.definitions)
  made_rules =
      let own = as_own def in
      let table : IsTable (name_in kind) (limit kind) (set (table_of kind l.definitions) slot (from_def kind def)) =
      subst (λ (o : Option (KindDef kind)). IsTable (name_in kind) (limit kind) (set (table_of kind l.definitions) slot o)) (sym (as_made own.0 own.1)) (made_table own.0 own.1) in
      record {
        tables = all-rules (with_slot kind slot (Some def) l.definitions) (subst IsFormat (sym (format-stays kind slot (Some def) l.definitions)) sound.definitions.tables.format) (changed_tables kind (set (table_of kind l.definitions) slot (from_def kind def)) l.definitions sound.definitions.tables table);
        limits = limits_filled kind slot def l.definitions can.fits.within refl sound.definitions.tables can.fits.limits sound.definitions.limits;
        references = references_filled kind slot def l.definitions can.fits.within refl sound.definitions.tables can.fits.refers sound.definitions.references;
        follow = changed_follow kind slot (Some def) l sound made_unused made_pageless (λ c is here. made_follow c (made_def kinds.Calendar c is here));
        valid = changed_valid kind slot (Some def) l sound made_unused made_pageless (λ c is here. (made_valid c (made_def kinds.Calendar c is here)).0);
        quotas = omega (arith, granted_then kind slot (Some def) l.definitions can.fits.within sound.definitions.tables, can.pages);
        origins = changed_origins kind slot (Some def) l sound made_unused made_pageless (λ s is here. made_origin s (made_def kinds.Series s is here));
      }

  pub made_sound : IsSound (layout_with kind slot (Some def) l)
  made_sound = changed_sound kind slot (Some def) l sound made_unused made_pageless made_rules

  pub made_headings : KeepsElements (with_slot kind slot (Some def) l.definitions) l
  made_headings = changed_elements kind slot (Some def) l sound made_unused made_pageless

  pub made_catalogue : (a : KindDef kind) → to_def kind a ≡ def → catalogue_of (layout_with kind slot (Some def) l) ≡ with_named kind (name_of def) (value_of kind l slot a) (catalogue_of l)
  made_catalogue a is =
      let after : Layout = layout_with kind slot (Some def) l in
      let table : List (Option (KindDef kind)) = table_of kind l.definitions in
      let own : named_in kind after ≡ insert (named_in kind l) (name_of def) (value_of kind l slot a) =
      ap (by_name (name_in kind) (value_of kind after)) (table-here kind (set table slot (from_def kind def)) l.definitions ∙ ap (set table slot) (as_made a is))
      ∙ by_name_same (name_in kind) (value_of kind after) (value_of kind l) (set table slot (Some a)) (λ i b here. elim (at_filled table slot i a b made_within here) [
        | inl new ↦ (λ j. value_of kind after (new.0 j) (new.1 j)) ∙ same_value kind l after.definitions slot a (λ target at refers. made_targets target at (subst (λ (x : Def). Refers x target at) is refers)) ∙ (λ j. value_of kind l (sym new.0 j) (sym new.1 j))
        | inr old ↦ value_stays kind slot (Some def) l sound made_unused made_pageless kind i b old.1
      ])
      ∙ by_name_filled (name_in kind) (to_def kind) (λ x. refl) (value_of kind l) table slot a made_within (empty_in (to_def kind) slot table can.fits.empty) (ap (λ (n : List ℕ). slot_of n (slots kind l.definitions)) (ap name_of is) ∙ can.fits.new)
      ∙ ap (λ (n : List ℕ). insert (named_in kind l) n (value_of kind l slot a)) (ap name_of is) in
      catalogue_with kind (name_of def) (value_of kind l slot a) l after (format-stays kind slot (Some def) l.definitions) refl own (others_named kind slot (Some def) l sound made_unused made_pageless)

-- a definition to which nothing refers is dropped
module _ (kind : Kind) (slot : ℕ) (name : List ℕ) (l : Layout) (sound : IsSound l) (can : CanDrop kind slot name l) where
  dropped_there : (a : KindDef kind) × (at_slot slot (table_of kind l.definitions) ≡ Some a) × (name_in kind a ≡ name)
  dropped_there = slot_there (name_in kind) (to_def kind) (λ x. refl) (table_of kind l.definitions) name slot can.named

  pub dropped_within : slot < limit kind
  dropped_within = omega (arith, within_table (table_of kind l.definitions) slot dropped_there.0 dropped_there.1, (table-rules l.definitions sound.definitions.tables kind).size)

  pub dropped_pageless : kind ≡ kinds.Series → (at_slot slot l.definitions.series ≡ None) × HasNoPage slot l.element_pages
  dropped_pageless series = absurd (not_series kind can.pageless series)

  none_new : (k : Kind) (a : KindDef k) → kind ≡ k → at_slot slot (table_of k (with_slot kind slot None l.definitions)) ≡ Some a → ⊥
  none_new k a is here =
      none≢some (def_at kind slot (with_slot kind slot None l.definitions)) (to_def k a) (cleared_here kind slot l.definitions dropped_within sound.definitions.tables)
      (ap (λ (x : Kind). def_at x slot (with_slot kind slot None l.definitions)) is ∙ filled_in (to_def k) slot (table_of k (with_slot kind slot None l.definitions)) a here)

  dropped_rules : AreSound (length l.element_pages) (with_slot kind slot None l.definitions)
  dropped_rules = record {
    tables = all-rules (with_slot kind slot None l.definitions) (subst IsFormat (sym (format-stays kind slot None l.definitions)) sound.definitions.tables.format) (changed_tables kind (set (table_of kind l.definitions) slot None) l.definitions sound.definitions.tables
        (table_cleared (name_in kind) (limit kind) slot (table_of kind l.definitions) dropped_within (table-rules l.definitions sound.definitions.tables kind)));
    limits = limits_cleared kind slot l.definitions dropped_within sound.definitions.tables sound.definitions.limits;
    references = references_cleared kind slot l.definitions dropped_within sound.definitions.tables can.unused sound.definitions.references;
    follow = changed_follow kind slot None l sound can.unused dropped_pageless (λ c is here. absurd (none_new kinds.Calendar c is here));
    valid = changed_valid kind slot None l sound can.unused dropped_pageless (λ c is here. absurd (none_new kinds.Calendar c is here));
    quotas = omega (arith, granted_then kind slot None l.definitions dropped_within sound.definitions.tables, sound.definitions.quotas);
    origins = changed_origins kind slot None l sound can.unused dropped_pageless (λ s is here. absurd (none_new kinds.Series s is here));
  }

  pub dropped_sound : IsSound (layout_with kind slot None l)
  dropped_sound = changed_sound kind slot None l sound can.unused dropped_pageless dropped_rules

  pub dropped_headings : KeepsElements (with_slot kind slot None l.definitions) l
  dropped_headings = changed_elements kind slot None l sound can.unused dropped_pageless

  pub dropped_catalogue : catalogue_of (layout_with kind slot None l) ≡ without kind name (catalogue_of l)
  dropped_catalogue =
      let after : Layout = layout_with kind slot None l in
      let table : List (Option (KindDef kind)) = table_of kind l.definitions in
      let inside : slot < length table = omega (arith, within_table table slot dropped_there.0 dropped_there.1) in
      let own : named_in kind after ≡ remove (named_in kind l) name =
      ap (by_name (name_in kind) (value_of kind after)) (table-here kind (set table slot None) l.definitions)
      ∙ by_name_same (name_in kind) (value_of kind after) (value_of kind l) (set table slot None) (λ i b here. value_stays kind slot None l sound can.unused dropped_pageless kind i b (at_cleared table slot i b inside here).1)
      ∙ by_name-clear (name_in kind) (value_of kind l) table slot dropped_there.0 (table-rules l.definitions sound.definitions.tables kind).apart dropped_there.1
      ∙ ap (remove (named_in kind l)) dropped_there.2 in
      catalogue_without kind name l after (format-stays kind slot None l.definitions) refl own (others_named kind slot None l sound can.unused dropped_pageless)
