-- What stands in the slots is what the catalogue has under the names, and the other way round.
use Rattle.std.specs.Prelude.{Contains}
use Rattle.std.proofs.Common.{◌≡◌, ℕ, ℤ, zero, suc, ◌<◌, Bool, true, false, Option, Some, None, List, [], ◌∷◌, refl, sym, ap, subst, ◌∙◌, arith, inl, inr, ◌⊎◌}
use Rattle.std.specs.List.{list_any}
use Rattle.std.specs.Ordering.{eq_by_cmp}
use Rattle.std.proofs.lemmas.List.Quantifiers.{position-Some}
use Rattle.std.specs.Option.{IfSome, is_none, option_map, option_and_then, unwrap_or}
use Rattle.std.specs.FinMap.{get, entries, values, len}
use Rattle.std.specs.Str.{bytes_eq}
use Rattle.ts_pattern.specs.Patterns.{Plan}
use Rattle.ts_calendar.specs.Calendars.{CalendarPlan}
use Rattle.ts_calendar.specs.declared.text.PatternPart.TheVariants.{Named as ByName}
use Rattle.ts_calendar.specs.declared.text.CalendarText.{CalendarText}
use Rattle.ts_offset.specs.Grid.{GridPlan, IsOnStart}
use Rattle.ts_offset.specs.declared.shape.Shape.{Shape}
use Rattle.ts_offset.specs.declared.shape.Shape.TheVariants as shapes
use Rattle.ts_model.specs.declared.kind.Kind.{Kind}
use Rattle.ts_model.specs.declared.kind.Kind.TheVariants as kinds
use Rattle.ts_model.specs.declared.def.Def.{Def}
use Rattle.ts_model.specs.Catalogue.{Named, Container, Regular, name_cmp, heading_of, quotas, pattern_of, with_plan, calendar_of, shape_of as shape_named, In, named, is_named, is_on_calendar, is_used}
use Rattle.ts_model.specs.Definitions.{Definitions, RowTypeDef, PatternDef, CalendarDef, ContainerDef, SeriesDef, KindDef, to_def, table_of, name_in, slots, slot_of, vacant_slot, at_slot, limit, references, pattern_reference, calendar_reference, Refers, IsUsed}
use Rattle.ts_model.proofs.OrderLemmas.{eq_ties, ties-refl, ties-same}
use Rattle.ts_model.proofs.PartsLemmas.{table-rules}
use Rattle.ts_layout.specs.Meaning.{Layout, def_at, quota_in, sum_of_quotas, heading_of_container, heading_in, heading_at, shape_of, shape_at, IsOnCalendar, IsSound, name_at, part_of, text_of, container_of, kind_in, series_of, value_of, named_in, catalogue_of}
use Rattle.ts_layout.specs.Lookup.{IsNamedAt}
use Rattle.ts_layout.proofs.SlotLemmas.{own, sizes}
use Rattle.ts_layout.proofs.LayoutLemmas.{one_of, within_table}
use Rattle.ts_layout.proofs.FilledLemmas.{slot_there, slot_here, get_none, got_none, get_slot, got_some}
use Rattle.ts_layout.proofs.ReferLemmas.{filled_in, some_in, each_there, first_of, further, calendar_refers, container_refers, series_refers, grid_refers}
use Rattle.ts_layout.proofs.CountLemmas.{any_values, empty_is, len_full, len_fewer, any_here, any_there, sum_of_values}
use Rattle.ts_layout.proofs.ValueLemmas.{name_there}

-- what the catalogue of a layout has of a kind
pub named_is : (kind : Kind) (l : Layout) → named kind (catalogue_of l) ≡ named_in kind l
named_is kinds.RowType l = refl
named_is kinds.Pattern l = refl
named_is kinds.Calendar l = refl
named_is kinds.Container l = refl
named_is kinds.Series l = refl

get_is : (kind : Kind) (l : Layout) (name : List ℕ) → get (named kind (catalogue_of l)) name ≡ get (named_in kind l) name
get_is kind l name = ap (λ (m : Named (In kind)). get m name) (named_is kind l)

-- definitions and their names
pub name_stands : (kind : Kind) (l : Layout) (slot : ℕ) (a : KindDef kind) → IsSound l → at_slot slot (table_of kind l.definitions) ≡ Some a → IsNamedAt kind l slot (name_in kind a) a
name_stands kind l slot a sound here =
    let table : List (Option (KindDef kind)) = table_of kind l.definitions in
    let apart = (table-rules l.definitions sound.definitions.tables kind).apart in
    record {
      there = here;
      def = filled_in (to_def kind) slot table a here;
      its_name = refl;
      named = slot_here (name_in kind) (to_def kind) (λ x. refl) table slot a apart here;
      listed = get_is kind l (name_in kind a) ∙ get_slot (name_in kind) (to_def kind) (λ x. refl) (value_of kind l) table slot a apart here;
    }

pub name_found : (kind : Kind) (l : Layout) (name : List ℕ) (slot : ℕ) → IsSound l → slot_of name (slots kind l.definitions) ≡ Some slot → (a : KindDef kind) × IsNamedAt kind l slot name a
name_found kind l name slot sound is =
    let there = slot_there (name_in kind) (to_def kind) (λ x. refl) (table_of kind l.definitions) name slot is in
    (there.0, subst (λ (n : List ℕ). IsNamedAt kind l slot n there.0) there.2 (name_stands kind l slot there.0 sound there.1))

pub name_listed : (kind : Kind) (l : Layout) (name : List ℕ) (x : In kind) → IsSound l → get (named kind (catalogue_of l)) name ≡ Some x → (slot : ℕ) × (a : KindDef kind) × IsNamedAt kind l slot name a × (x ≡ value_of kind l slot a)
name_listed kind l name x sound is =
    let apart = (table-rules l.definitions sound.definitions.tables kind).apart in
    let there = got_some (name_in kind) (to_def kind) (λ x. refl) (value_of kind l) (table_of kind l.definitions) name x apart (sym (get_is kind l name) ∙ is) in
    (there.0, there.1, subst (λ (n : List ℕ). IsNamedAt kind l there.0 n there.1) there.4 (name_stands kind l there.0 there.1 sound there.3), there.5)

pub no_name_found : (kind : Kind) (l : Layout) (name : List ℕ) → slot_of name (slots kind l.definitions) ≡ None → get (named kind (catalogue_of l)) name ≡ None
no_name_found kind l name none = get_is kind l name ∙ get_none (name_in kind) (to_def kind) (λ x. refl) (value_of kind l) (table_of kind l.definitions) name none

pub no_name_listed : (kind : Kind) (l : Layout) (name : List ℕ) → get (named kind (catalogue_of l)) name ≡ None → slot_of name (slots kind l.definitions) ≡ None
no_name_listed kind l name none = got_none (name_in kind) (to_def kind) (λ x. refl) (value_of kind l) (table_of kind l.definitions) name (sym (get_is kind l name) ∙ none)

-- how many they are
pub kind_full : (kind : Kind) (l : Layout) → IsSound l → vacant_slot (slots kind l.definitions) ≡ None → len (named kind (catalogue_of l)) ≡ limit kind
kind_full kind l sound full =
    let rules = table-rules l.definitions sound.definitions.tables kind in
    ap (λ (m : Named (In kind)). len m) (named_is kind l) ∙ len_full (name_in kind) (value_of kind l) (to_def kind) (table_of kind l.definitions) rules.apart full ∙ rules.size

pub kind_vacant : (kind : Kind) (l : Layout) (slot : ℕ) → IsSound l → vacant_slot (slots kind l.definitions) ≡ Some slot → len (named kind (catalogue_of l)) < limit kind
kind_vacant kind l slot sound vacant =
    let rules = table-rules l.definitions sound.definitions.tables kind in
    let same = ap (λ (m : Named (In kind)). len m) (named_is kind l) in
    let fewer = len_fewer (name_in kind) (value_of kind l) (to_def kind) (table_of kind l.definitions) slot rules.apart vacant in
    omega (arith, same, fewer, rules.size)

-- of patterns, calendars, containers and series
pub pattern_found : (l : Layout) (name : List ℕ) (slot : ℕ) → IsSound l → slot_of name (slots kinds.Pattern l.definitions) ≡ Some slot → (a : PatternDef) × IsNamedAt kinds.Pattern l slot name a
pattern_found l name slot sound is = name_found kinds.Pattern l name slot sound is

pub calendar_found : (l : Layout) (name : List ℕ) (slot : ℕ) → IsSound l → slot_of name (slots kinds.Calendar l.definitions) ≡ Some slot → (a : CalendarDef) × IsNamedAt kinds.Calendar l slot name a
calendar_found l name slot sound is = name_found kinds.Calendar l name slot sound is

pub container_found : (l : Layout) (name : List ℕ) (slot : ℕ) → IsSound l → slot_of name (slots kinds.Container l.definitions) ≡ Some slot → (a : ContainerDef) × IsNamedAt kinds.Container l slot name a
container_found l name slot sound is = name_found kinds.Container l name slot sound is

pub series_at : (l : Layout) (slot : ℕ) (a : SeriesDef) → IsSound l → at_slot slot l.definitions.series ≡ Some a → IsNamedAt kinds.Series l slot a.key a
series_at l slot a sound here = name_stands kinds.Series l slot a sound here

pub series_found : (l : Layout) (name : List ℕ) (slot : ℕ) → IsSound l → slot_of name (slots kinds.Series l.definitions) ≡ Some slot → (a : SeriesDef) × IsNamedAt kinds.Series l slot name a
series_found l name slot sound is = name_found kinds.Series l name slot sound is

-- the pattern of a calendar that was made by a pattern's name, under the name that its text gives
pub pattern_of_calendar : (l : Layout) (slot at : ℕ) (c : CalendarDef) → IsSound l → at_slot slot l.definitions.calendars ≡ Some c → c.by ≡ Some at
    → (name : List ℕ) × (p : PatternDef) × ((text_of l.definitions c).part ≡ ByName name) × IsNamedAt kinds.Pattern l at name p × (p.pattern ≡ c.calendar.pattern)
pattern_of_calendar l slot at c sound here is =
    let p = calendar_refers l.definitions sound.definitions.tables sound.definitions.references slot c at here is in
    let name : name_at (λ (x : PatternDef). x.name) at l.definitions.patterns ≡ p.0.name = ap (λ (o : Option PatternDef). unwrap_or (option_map (λ (x : PatternDef). x.name) o) []) p.1 in
    let same = one_of (option_map (λ (x : PatternDef). x.pattern) (at_slot at l.definitions.patterns)) p.0.pattern c.calendar.pattern (ap (option_map (λ (x : PatternDef). x.pattern)) p.1) (sound.definitions.follow slot c here at is) in
    (p.0.name, p.0, ap (part_of l.definitions c) is ∙ ap (λ (n : List ℕ). ByName n) name, name_stands kinds.Pattern l at p.0 sound p.1, same)

-- the calendar that its text stands for in the catalogue is the one in the slot
part_stands : (l : Layout) (slot : ℕ) (c : CalendarDef) (by : Option ℕ) → IsSound l → at_slot slot l.definitions.calendars ≡ Some c → c.by ≡ by → pattern_of (catalogue_of l) (part_of l.definitions c by) ≡ Some c.calendar.pattern
part_stands l slot c None sound here is = refl
part_stands l slot c (Some at) sound here is =
    let its = pattern_of_calendar l slot at c sound here is in
    ap (pattern_of (catalogue_of l)) (sym (ap (part_of l.definitions c) is) ∙ its.2) ∙ its.3.listed ∙ ap (λ (x : Plan). Some x) its.4

pub calendar_stands : (l : Layout) (slot : ℕ) (c : CalendarDef) → IsSound l → at_slot slot l.definitions.calendars ≡ Some c → calendar_of (catalogue_of l) (text_of l.definitions c) ≡ Some c.calendar
calendar_stands l slot c sound here = ap (option_map (with_plan (text_of l.definitions c))) (part_stands l slot c c.by sound here refl)

-- the row type of a container, the container of a series, and the columns of a series
pub row_type_of_container : (l : Layout) (slot : ℕ) (c : ContainerDef) → IsSound l → at_slot slot l.definitions.containers ≡ Some c → (r : RowTypeDef) × IsNamedAt kinds.RowType l c.row_type (container_of l.definitions c).row_type r
row_type_of_container l slot c sound here =
    let r = container_refers l.definitions sound.definitions.tables sound.definitions.references slot c here in
    let name : (container_of l.definitions c).row_type ≡ r.0.name = ap (λ (o : Option RowTypeDef). unwrap_or (option_map (λ (x : RowTypeDef). x.name) o) []) r.1 in
    (r.0, subst (λ (n : List ℕ). IsNamedAt kinds.RowType l c.row_type n r.0) (sym name) (name_stands kinds.RowType l c.row_type r.0 sound r.1))

pub container_of_series : (l : Layout) (slot : ℕ) (s : SeriesDef) → IsSound l → at_slot slot l.definitions.series ≡ Some s → (c : ContainerDef) × IsNamedAt kinds.Container l s.container (series_of l slot s).container c
container_of_series l slot s sound here =
    let c = series_refers l.definitions sound.definitions.tables sound.definitions.references slot s here in
    let name : (series_of l slot s).container ≡ c.0.name = ap (λ (o : Option ContainerDef). unwrap_or (option_map (λ (x : ContainerDef). x.name) o) []) c.1 in
    (c.0, subst (λ (n : List ℕ). IsNamedAt kinds.Container l s.container n c.0) (sym name) (name_stands kinds.Container l s.container c.0 sound c.1))

pub columns_of_series : (l : Layout) (slot : ℕ) (s : SeriesDef) → IsSound l → at_slot slot l.definitions.series ≡ Some s → heading_of (catalogue_of l) (series_of l slot s) ≡ heading_at l.definitions slot
columns_of_series l slot s sound here =
    let c = container_of_series l slot s sound here in
    let r = row_type_of_container l s.container c.0 sound c.1.there in
    ap (option_and_then (λ (x : Container). get (catalogue_of l).row_types x.row_type)) c.1.listed ∙ r.1.listed
    ∙ sym (ap (option_and_then (λ (x : SeriesDef). heading_in l.definitions x.container)) here ∙ ap (option_and_then (heading_of_container l.definitions)) c.1.there ∙ ap (option_map (λ (x : RowTypeDef). x.heading)) r.1.there)

-- the calendar of a regular series under the name that its kind gives; its origin is an on start there
pub grid_found : (l : Layout) (slot at : ℕ) (origin : ℤ) (s : SeriesDef) → IsSound l → at_slot slot l.definitions.series ≡ Some s → s.regular ≡ Some (at, origin)
    → (name : List ℕ) × (c : CalendarDef) × ((series_of l slot s).kind ≡ Regular name origin) × IsNamedAt kinds.Calendar l at name c × IsOnStart c.calendar origin
grid_found l slot at origin s sound here is =
    let c = grid_refers l.definitions sound.definitions.tables sound.definitions.references slot s at origin here is in
    let name : name_at (λ (x : CalendarDef). x.name) at l.definitions.calendars ≡ c.0.name = ap (λ (o : Option CalendarDef). unwrap_or (option_map (λ (x : CalendarDef). x.name) o) []) c.1 in
    let begins : IsOnCalendar l.definitions (at, origin) = subst (λ (regular : Option (ℕ × ℤ)). IfSome regular (IsOnCalendar l.definitions)) is (sound.definitions.origins slot s here) in
    (c.0.name, c.0, ap (kind_in l.definitions) is ∙ ap (λ (n : List ℕ). Regular n origin) name, name_stands kinds.Calendar l at c.0 sound c.1, begins c.0 c.1)

-- where the elements of a series can stand, by its slot and by its kind
pub shape_found : (l : Layout) (slot : ℕ) (s : SeriesDef) → IsSound l → at_slot slot l.definitions.series ≡ Some s
    → (shape : Shape) × (shape_at l.definitions slot ≡ Some shape) × (shape_named (catalogue_of l) (series_of l slot s).kind ≡ Some shape)
shape_found l slot s sound here = of_regular s.regular refl where
  at_its : (regular : Option (ℕ × ℤ)) → s.regular ≡ regular → shape_at l.definitions slot ≡ shape_of l.definitions regular
  at_its regular is = ap (option_and_then (λ (x : SeriesDef). shape_of l.definitions x.regular)) here ∙ ap (shape_of l.definitions) is

  of_regular : (regular : Option (ℕ × ℤ)) → s.regular ≡ regular → (shape : Shape) × (shape_at l.definitions slot ≡ Some shape) × (shape_named (catalogue_of l) (series_of l slot s).kind ≡ Some shape)
  of_regular None is = (shapes.Irregular, at_its None is, ap (λ (r : Option (ℕ × ℤ)). shape_named (catalogue_of l) (kind_in l.definitions r)) is)
  of_regular (Some (at, origin)) is =
      let found = grid_found l slot at origin s sound here is in
      let grid : CalendarPlan → Shape = λ c. shapes.Regular (record { calendar = c; origin = origin }) in
      let by_slot : shape_of l.definitions (Some (at, origin)) ≡ Some (grid found.1.calendar) =
      ap (λ (o : Option CalendarDef). option_map shapes.Regular (option_map (λ (c : CalendarDef). let g : GridPlan = record { calendar = c.calendar; origin = origin } in g) o)) found.3.there in
      let by_name : shape_named (catalogue_of l) (Regular found.0 origin) ≡ Some (grid found.1.calendar) =
      ap (λ (o : Option CalendarText). option_map grid (option_and_then (calendar_of (catalogue_of l)) o)) found.3.listed ∙ ap (option_map grid) (calendar_stands l at found.1 sound found.3.there) in
      (grid found.1.calendar, at_its (Some (at, origin)) is ∙ by_slot, ap (shape_named (catalogue_of l)) found.2 ∙ by_name)

-- the quotas
pub quotas_same : (l : Layout) → IsSound l → sum_of_quotas l.definitions.containers ≡ quotas (catalogue_of l)
quotas_same l sound =
    sum_of_values (λ (c : ContainerDef). c.name) (λ (n : ℕ) (c : ContainerDef). container_of l.definitions c) (λ (c : Container). c.quota) quota_in l.definitions.containers sound.definitions.tables.containers.apart refl (λ n c. refl)

-- the same bytes, by the test
same_bytes : (a b : List ℕ) → a ≡ b → bytes_eq a b ≡ true
same_bytes a b same = eq_ties a b ∙ ap (λ (n : List ℕ). eq_by_cmp name_cmp a n) (sym same) ∙ ties-refl a

bytes_same : (a b : List ℕ) → bytes_eq a b ≡ true → a ≡ b
bytes_same a b is = ties-same a b (sym (eq_ties a b) ∙ is)

not_true : (b : Bool) → (b ≡ true → ⊥) → b ≡ false
not_true true never = absurd (never refl)
not_true false never = refl

true_false : (b : Bool) → b ≡ true → b ≡ false → ⊥
true_false b is not_so = cc

one_slot : (o : Option ℕ) (i j : ℕ) → o ≡ Some i → o ≡ Some j → i ≡ j
one_slot o i j first second = cc

-- the one thing that a definition refers to
only_one : (x y : Kind × ℕ) → Contains (x ∷ []) y → x ≡ y
only_one x y (zero, below, is) = is
only_one x y (suc k, below, is) = absurd (omega (arith, below))

nothing : (y : Kind × ℕ) → Contains [] y → ⊥
nothing y (k, below, is) = absurd (omega (arith, below))

-- the kind and the slot of the one thing
kind_alone : (kind kind' : Kind) (slot slot' : ℕ) → (let target : Kind × ℕ = (kind', slot') in Contains ((kind, slot) ∷ []) target) → kind ≡ kind'
kind_alone kind kind' slot slot' there = ap (λ (t : Kind × ℕ). t.0) (only_one (kind, slot) (kind', slot') there)

one_place : (kind : Kind) (slot at : ℕ) → (let target : Kind × ℕ = (kind, at) in Contains ((kind, slot) ∷ []) target) → slot ≡ at
one_place kind slot at there = ap (λ (t : Kind × ℕ). t.1) (only_one (kind, slot) (kind, at) there)

same_place : (slot : ℕ) (kind : Kind) → (let target : Kind × ℕ = (kind, slot) in Contains (target ∷ []) target)
same_place slot kind = first_of (kind, slot) (kind, slot) [] refl

-- One kind's definitions refer to another's by slots, and in the catalogue by names: a test by a name is true of one that refers to a slot
-- exactly where that slot has the name, and of none that refers to nothing.
record AreTested (l : Layout) (user target : Kind) (test : List ℕ → In user → Bool) : Type 0 where
  by_slot : (name : List ℕ) (i : ℕ) (a : KindDef user) (at : ℕ) → Refers (to_def user a) target at → test name (value_of user l i a) ≡ bytes_eq (name_at (name_in target) at (table_of target l.definitions)) name
  refers : (name : List ℕ) (i : ℕ) (a : KindDef user) → test name (value_of user l i a) ≡ true → (at : ℕ) × Refers (to_def user a) target at

module _ (l : Layout) (sound : IsSound l) (user target : Kind) (test : List ℕ → In user → Bool) (tested : AreTested l user target test) (slot : ℕ) (name : List ℕ) (is : slot_of name (slots target l.definitions) ≡ Some slot) where
  abbrev in_use : Bool
  in_use = list_any (test name) (values (named_in user l))

  user_low : (i : ℕ) (a : KindDef user) → at_slot i (table_of user l.definitions) ≡ Some a → i < limit user
  user_low i a here = omega (arith, within_table (table_of user l.definitions) i a here, (table-rules l.definitions sound.definitions.tables user).size)

  name_used : (i : ℕ) (a : KindDef user) → at_slot i (table_of user l.definitions) ≡ Some a → Refers (to_def user a) target slot → in_use ≡ true
  name_used i a here refers =
      let named = name_there (name_in target) (to_def target) (λ r. refl) (table_of target l.definitions) name slot is in
      any_values (test name) (entries (named_in user l))
      ∙ any_here (name_in user) (value_of user l) (λ (e : List ℕ × In user). test name e.1) i a (table_of user l.definitions) (table-rules l.definitions sound.definitions.tables user).apart here
      (tested.by_slot name i a slot refers ∙ same_bytes (name_at (name_in target) slot (table_of target l.definitions)) name named)

  -- a slot that one of which the test is true refers to has the name
  its_slot : (i : ℕ) (a : KindDef user) (at : ℕ) (b : KindDef target) → Refers (to_def user a) target at → test name (value_of user l i a) ≡ true → at_slot at (table_of target l.definitions) ≡ Some b → at ≡ slot
  its_slot i a at b refers true_of there =
      let its_name : name_at (name_in target) at (table_of target l.definitions) ≡ name_in target b = ap (λ (o : Option (KindDef target)). unwrap_or (option_map (name_in target) o) []) there in
      let same : name_in target b ≡ name = sym its_name ∙ bytes_same (name_at (name_in target) at (table_of target l.definitions)) name (sym (tested.by_slot name i a at refers) ∙ true_of) in
      let named : slot_of name (slots target l.definitions) ≡ Some at = ap (λ (n : List ℕ). slot_of n (slots target l.definitions)) (sym same) ∙ (name_stands target l at b sound there).named in
      one_slot (slot_of name (slots target l.definitions)) at slot named is

  used_here : (i : ℕ) (a : KindDef user) → at_slot i (table_of user l.definitions) ≡ Some a → test name (value_of user l i a) ≡ true → IsUsed target slot l.definitions
  used_here i a there true_of =
      let low = user_low i a there in
      let here = filled_in (to_def user) i (table_of user l.definitions) a there in
      let its = tested.refers name i a true_of in
      let held = some_in (def_at target its.0 l.definitions) (each_there l.definitions (references (to_def user a)) target its.0 (sound.definitions.references user i (to_def user a) low here) its.1) in
      let b = own (to_def target) its.0 (table_of target l.definitions) held.0 held.1 in
      (user, (i, to_def user a, low, here, subst (λ (n : ℕ). Refers (to_def user a) target n) (its_slot i a its.0 b.0 its.1 true_of b.1) its.1))

  name_user : in_use ≡ true → IsUsed target slot l.definitions
  name_user some =
      let there = any_there (name_in user) (value_of user l) (λ (e : List ℕ × In user). test name e.1) (table_of user l.definitions) (table-rules l.definitions sound.definitions.tables user).apart
      (sym (any_values (test name) (entries (named_in user l))) ∙ some) in
      used_here there.0 there.1 there.2 there.3

-- a calendar by the name of its pattern
part_by_slot : (d : Definitions) (c : CalendarDef) (by : Option ℕ) (name : List ℕ) (at : ℕ) → (let target : Kind × ℕ = (kinds.Pattern, at) in Contains (pattern_reference by) target) → is_named name (part_of d c by) ≡ bytes_eq (name_at (λ (p : PatternDef). p.name) at d.patterns) name
part_by_slot d c None name at refers = absurd (nothing (kinds.Pattern, at) refers)
part_by_slot d c (Some slot) name at refers = ap (λ (n : ℕ). bytes_eq (name_at (λ (p : PatternDef). p.name) n d.patterns) name) (one_place kinds.Pattern slot at refers)

part_refers : (d : Definitions) (c : CalendarDef) (by : Option ℕ) (name : List ℕ) → is_named name (part_of d c by) ≡ true → (at : ℕ) × (let target : Kind × ℕ = (kinds.Pattern, at) in Contains (pattern_reference by) target)
part_refers d c None name is = absurd (cc)
part_refers d c (Some slot) name is = (slot, same_place slot kinds.Pattern)

calendars_tested : (l : Layout) → AreTested l kinds.Calendar kinds.Pattern (λ name c. is_named name c.part)
calendars_tested l = record {
  by_slot = λ name i c at refers. part_by_slot l.definitions c c.by name at refers;
  refers = λ name i c is. part_refers l.definitions c c.by name is;
}

-- a container by the name of its row type, and a series by that of its container
containers_tested : (l : Layout) → AreTested l kinds.Container kinds.RowType (λ name c. bytes_eq c.row_type name)
containers_tested l = record {
  by_slot = λ name i c at refers. ap (λ (n : ℕ). bytes_eq (name_at (λ (r : RowTypeDef). r.name) n l.definitions.row_types) name) (one_place kinds.RowType c.row_type at refers);
  refers = λ name i c is. (c.row_type, same_place c.row_type kinds.RowType);
}

-- what a series refers to: its container first, then the calendar if it is regular
series_place : (container at : ℕ) (regular : Option (ℕ × ℤ)) → (let target : Kind × ℕ = (kinds.Container, at) in Contains ((kinds.Container, container) ∷ calendar_reference regular) target) → container ≡ at
series_place container at regular (zero, below, is) = ap (λ (t : Kind × ℕ). t.1) is
series_place container at None (suc k, below, is) = absurd (omega (arith, below))
series_place container at (Some regular) (suc zero, below, is) = let other : kinds.Calendar ≡ kinds.Container = ap (λ (t : Kind × ℕ). t.0) is in absurd (cc)
series_place container at (Some regular) (suc (suc k), below, is) = absurd (omega (arith, below))

calendar_place : (container at : ℕ) (regular : Option (ℕ × ℤ)) → (let target : Kind × ℕ = (kinds.Calendar, at) in Contains ((kinds.Container, container) ∷ calendar_reference regular) target) → (let target : Kind × ℕ = (kinds.Calendar, at) in Contains (calendar_reference regular) target)
calendar_place container at regular (zero, below, is) = let other : kinds.Container ≡ kinds.Calendar = ap (λ (t : Kind × ℕ). t.0) is in absurd (cc)
calendar_place container at regular (suc k, below, is) = (k, omega (arith, below), is)

series_alone : (kind : Kind) (slot container : ℕ) (regular : Option (ℕ × ℤ)) → (let target : Kind × ℕ = (kind, slot) in Contains ((kinds.Container, container) ∷ calendar_reference regular) target) → (kinds.Container ≡ kind) ⊎ (kinds.Calendar ≡ kind)
series_alone kind slot container regular (zero, below, is) = inl (ap (λ (t : Kind × ℕ). t.0) is)
series_alone kind slot container None (suc k, below, is) = absurd (omega (arith, below))
series_alone kind slot container (Some regular) (suc zero, below, is) = inr (ap (λ (t : Kind × ℕ). t.0) is)
series_alone kind slot container (Some regular) (suc (suc k), below, is) = absurd (omega (arith, below))

series_tested : (l : Layout) → AreTested l kinds.Series kinds.Container (λ name s. bytes_eq s.container name)
series_tested l = record {
  by_slot = λ name i s at refers. ap (λ (n : ℕ). bytes_eq (name_at (λ (c : ContainerDef). c.name) n l.definitions.containers) name) (series_place s.container at s.regular refers);
  refers = λ name i s is. (s.container, first_of (kinds.Container, s.container) (kinds.Container, s.container) (calendar_reference s.regular) refl);
}

-- and a regular series by the name of its calendar
kind_by_slot : (d : Definitions) (regular : Option (ℕ × ℤ)) (name : List ℕ) (at : ℕ) → (let target : Kind × ℕ = (kinds.Calendar, at) in Contains (calendar_reference regular) target)
    → is_on_calendar name (kind_in d regular) ≡ bytes_eq (name_at (λ (c : CalendarDef). c.name) at d.calendars) name
kind_by_slot d None name at refers = absurd (nothing (kinds.Calendar, at) refers)
kind_by_slot d (Some regular) name at refers = ap (λ (n : ℕ). bytes_eq (name_at (λ (c : CalendarDef). c.name) n d.calendars) name) (one_place kinds.Calendar regular.0 at refers)

kind_refers : (d : Definitions) (container : ℕ) (regular : Option (ℕ × ℤ)) (name : List ℕ) → is_on_calendar name (kind_in d regular) ≡ true
    → (at : ℕ) × (let target : Kind × ℕ = (kinds.Calendar, at) in Contains ((kinds.Container, container) ∷ calendar_reference regular) target)
kind_refers d container None name is = absurd (cc)
kind_refers d container (Some regular) name is =
    (regular.0, further (kinds.Container, container) (kinds.Calendar, regular.0) (calendar_reference (Some regular)) (same_place regular.0 kinds.Calendar))

regulars_tested : (l : Layout) → AreTested l kinds.Series kinds.Calendar (λ name s. is_on_calendar name s.kind)
regulars_tested l = record {
  by_slot = λ name i s at refers. kind_by_slot l.definitions s.regular name at (calendar_place s.container at s.regular refers);
  refers = λ name i s is. kind_refers l.definitions s.container s.regular name is;
}

-- a calendar refers to a pattern alone, a container to a row type
pattern_alone : (kind : Kind) (slot : ℕ) (by : Option ℕ) → (let target : Kind × ℕ = (kind, slot) in Contains (pattern_reference by) target) → kinds.Pattern ≡ kind
pattern_alone kind slot None refers = absurd (nothing (kind, slot) refers)
pattern_alone kind slot (Some at) refers = kind_alone kinds.Pattern kind at slot refers

-- what a definition of a kind refers to, is used by its name
used_at : (user kind : Kind) (slot : ℕ) (name : List ℕ) (l : Layout) → IsSound l → slot_of name (slots kind l.definitions) ≡ Some slot → (i : ℕ) (a : KindDef user) → at_slot i (table_of user l.definitions) ≡ Some a → Refers (to_def user a) kind slot
    → is_used kind name (catalogue_of l) ≡ true
used_at kinds.RowType kind slot name l sound is i r here refers = absurd (nothing (kind, slot) refers)
used_at kinds.Pattern kind slot name l sound is i p here refers = absurd (nothing (kind, slot) refers)
used_at kinds.Calendar kind slot name l sound is i c here refers =
    subst (λ (k : Kind). slot_of name (slots k l.definitions) ≡ Some slot → Refers (to_def kinds.Calendar c) k slot → is_used k name (catalogue_of l) ≡ true) (pattern_alone kind slot c.by refers)
    (λ found there. name_used l sound kinds.Calendar kinds.Pattern (λ n x. is_named n x.part) (calendars_tested l) slot name found i c here there) is refers
used_at kinds.Container kind slot name l sound is i c here refers =
    subst (λ (k : Kind). slot_of name (slots k l.definitions) ≡ Some slot → Refers (to_def kinds.Container c) k slot → is_used k name (catalogue_of l) ≡ true) (kind_alone kinds.RowType kind c.row_type slot refers)
    (λ found there. name_used l sound kinds.Container kinds.RowType (λ n x. bytes_eq x.row_type n) (containers_tested l) slot name found i c here there) is refers
used_at kinds.Series kind slot name l sound is i s here refers =
    let P : Kind → Type 0 = λ k. slot_of name (slots k l.definitions) ≡ Some slot → Refers (to_def kinds.Series s) k slot → is_used k name (catalogue_of l) ≡ true in
    elim (series_alone kind slot s.container s.regular refers) [
      | inl container ↦ subst P container (λ found there. name_used l sound kinds.Series kinds.Container (λ n x. bytes_eq x.container n) (series_tested l) slot name found i s here there) is refers
      | inr calendar ↦ subst P calendar (λ found there. name_used l sound kinds.Series kinds.Calendar (λ n x. is_on_calendar n x.kind) (regulars_tested l) slot name found i s here there) is refers
    ]

pub used_by_name : (kind : Kind) (slot : ℕ) (name : List ℕ) (l : Layout) → IsSound l → slot_of name (slots kind l.definitions) ≡ Some slot → IsUsed kind slot l.definitions → is_used kind name (catalogue_of l) ≡ true
used_by_name kind slot name l sound is (user, (i, def, low, here, refers)) =
    let o = own (to_def user) i (table_of user l.definitions) def here in
    used_at user kind slot name l sound is i o.0 o.1 (subst (λ (x : Def). Refers x kind slot) (sym o.2) refers)

-- and the other way round
pub used_by_slot : (kind : Kind) (slot : ℕ) (name : List ℕ) (l : Layout) → IsSound l → slot_of name (slots kind l.definitions) ≡ Some slot → is_used kind name (catalogue_of l) ≡ true → IsUsed kind slot l.definitions
used_by_slot kinds.RowType slot name l sound is some = name_user l sound kinds.Container kinds.RowType (λ n x. bytes_eq x.row_type n) (containers_tested l) slot name is some
used_by_slot kinds.Pattern slot name l sound is some = name_user l sound kinds.Calendar kinds.Pattern (λ n x. is_named n x.part) (calendars_tested l) slot name is some
used_by_slot kinds.Calendar slot name l sound is some = name_user l sound kinds.Series kinds.Calendar (λ n x. is_on_calendar n x.kind) (regulars_tested l) slot name is some
used_by_slot kinds.Container slot name l sound is some = name_user l sound kinds.Series kinds.Container (λ n x. bytes_eq x.container n) (series_tested l) slot name is some
used_by_slot kinds.Series slot name l sound is some = absurd (cc)

pub unused_by_name : (kind : Kind) (slot : ℕ) (name : List ℕ) (l : Layout) → IsSound l → slot_of name (slots kind l.definitions) ≡ Some slot → (IsUsed kind slot l.definitions → ⊥) → is_used kind name (catalogue_of l) ≡ false
unused_by_name kind slot name l sound is unused = not_true (is_used kind name (catalogue_of l)) (λ some. unused (used_by_slot kind slot name l sound is some))

pub unused_by_slot : (kind : Kind) (slot : ℕ) (name : List ℕ) (l : Layout) → IsSound l → slot_of name (slots kind l.definitions) ≡ Some slot → is_used kind name (catalogue_of l) ≡ false → IsUsed kind slot l.definitions → ⊥
unused_by_slot kind slot name l sound is none used = true_false (is_used kind name (catalogue_of l)) (used_by_name kind slot name l sound is used) none

-- a slot that is the lowest empty one
pub vacant_found : (kind : Kind) (slot : ℕ) (l : Layout) → IsSound l → vacant_slot (slots kind l.definitions) ≡ Some slot → (slot < limit kind) × (def_at kind slot l.definitions ≡ None)
vacant_found kind slot l sound vacant =
    let found = position-Some (λ (x : Option Def). is_none x) (slots kind l.definitions) slot None vacant in
    let size = sizes l.definitions sound.definitions.tables kind in
    (omega (arith, found.0, size), empty_is (def_at kind slot l.definitions) found.1)
