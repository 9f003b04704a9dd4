-- What a container is charged by its slot, and by its name in the catalogue.
use Rattle.std.proofs.Common.{◌≡◌, ◌≢◌, ℕ, ℤ, suc, ◌+◌, ◌<◌, ◌==◌, Bool, true, false, cond, if◌then◌else◌, Option, Some, None, List, [], ◌∷◌, map, sum, length, refl, sym, ap, ◌∙◌, arith, zero-add, inl, inr}
use Rattle.std.specs.Option.{option_map, option_and_then, unwrap_or}
use Rattle.std.specs.List.{filter}
use Rattle.std.specs.Str.{bytes_eq}
use Rattle.std.proofs.lemmas.Bool.Decides.{nat_tests}
use Rattle.std.proofs.lemmas.Bool.{cases_eq}
use Rattle.std.proofs.lemmas.List.Sums.{sum_by-cons}
use Rattle.std.specs.Ordering.{is_eq, eq_by_cmp}
use Rattle.std.specs.declared.cmp.Ordering.{Ordering}
use Rattle.std.specs.declared.cmp.Ordering.TheVariants.{Less, Equal, Greater}
use Rattle.std.specs.FinMap.{FinMap, find, put, get, entries, insert, remove, from_entries, same_map, get-insert, get-remove, entries-insert, get-entries, get-from_entries, len-entries, len-empty}
use Rattle.std.specs.FinMap as finmap
use Rattle.std.specs.FinMap.Entries.{by_order}
use Rattle.ts_row.specs.Row.{Heading}
use Rattle.ts_cells.specs.IrregularPage.{page_room}
use Rattle.ts_row.specs.declared.kind.Column.{Column}
use Rattle.ts_pattern.specs.Patterns.{Plan}
use Rattle.ts_calendar.specs.Calendars.{CalendarPlan}
use Rattle.ts_offset.specs.Grid.{GridPlan}
use Rattle.ts_offset.specs.declared.shape.Shape.{Shape}
use Rattle.ts_offset.specs.declared.shape.Shape.TheVariants.{Irregular, Regular}
use Rattle.ts_model.specs.Catalogue.{name_cmp, Catalogue, Container, Series, Elements, columns_of, quota_of, pattern_of, with_plan, calendar_of, shape_of as shape_by_name}
use Rattle.ts_model.specs.Charge.{series_charge, elements_charge, container_charge as charge_by_name}
use Rattle.ts_model.specs.Definitions.{Definitions, RowTypeDef, PatternDef, CalendarDef, ContainerDef, SeriesDef, at_slot, filled_from, by_name}
use Rattle.ts_model.proofs.OrderLemmas.{total, same_name, eq_ties, ties-refl, ties-same}
use Rattle.ts_model.proofs.SlotLemmas.{AreApart, apart-rest, find-other, find-slot}
use Rattle.ts_model.proofs.IndexLemmas.{empty-list}
use Rattle.ts_layout.specs.Meaning.{Layout, elements_at, heading_of_container, heading_at, heading_in, grid_in, shape_of, shape_at, AreSound, IsSound, sum_filled, charge_on, charge_of_series, charge_of_container, name_at, part_of, text_of, container_of, kind_in, series_of, catalogue_of}
use Rattle.ts_layout.specs.Chains.{AreFilled, with_elements_at}
use Rattle.ts_layout.proofs.PageLemmas.{sum_same}
use Rattle.ts_layout.proofs.LayoutLemmas.{one_of, mapped, within_table}
use Rattle.ts_layout.proofs.NamedLemmas.{insert_removed}
use Rattle.ts_layout.proofs.ReferLemmas.{calendar_refers, grid_refers}
use Rattle.ts_layout.proofs.SeriesChargeLemmas.{shape_charged}
use Rattle.ts_layout.proofs.UsedLemmas.{has_container}

-- the sum over entries
abbrev pub total_of : {X : Type 0} → (List ℕ × X → ℕ) → List (List ℕ × X) → ℕ
total_of w [] = 0
total_of w (e ∷ es) = w e + total_of w es

filter_total : {X : Type 0} (p : List ℕ × X → Bool) (g : List ℕ × X → ℕ) (es : List (List ℕ × X)) → sum (map g (filter p es)) ≡ total_of (λ e. cond (p e) (g e) 0) es
filter_total p g [] = refl
filter_total p g (e ∷ es) =
    let rest = filter_total p g es in
    elim (p e) as (λ (b : Bool). sum (map g (cond b (e ∷ filter p es) (filter p es))) ≡ cond b (g e) 0 + total_of (λ x. cond (p x) (g x) 0) es) [
      | true ↦ sum_by-cons (λ y. y) (g e) (map g (filter p es)) ∙ ap (λ (n : ℕ). g e + n) rest
      | false ↦ rest ∙ sym (zero-add (total_of (λ x. cond (p x) (g x) 0) es))
    ]

-- one entry of a new name more
put_total : {X : Type 0} (w : List ℕ × X → ℕ) (k : List ℕ) (v : X) (es : List (List ℕ × X)) → find name_cmp k es ≡ None → total_of w (put name_cmp k v es) ≡ w (k, v) + total_of w es
put_total w k v [] none = refl
put_total {X} w k v (e ∷ es) none =
    elim (name_cmp k e.0) as (λ (r : Ordering). cond (is_eq r) (Some e.1) (find name_cmp k es) ≡ None → total_of w (by_order r ((k, v) ∷ e ∷ es) ((e.0, v) ∷ es) (e ∷ put name_cmp k v es)) ≡ w (k, v) + (w e + total_of w es)) [
      | Less ↦ λ here. refl
      | Equal ↦ λ here. absurd (let never : ⊥ = cc in never)
      | Greater ↦ λ here. let rest = put_total w k v es here in omega (arith, rest)
    ] none

never_later : (i : ℕ) → suc i ≡ 0 → ⊥
never_later i is = omega arith

-- the entries of a table under their names
table_total : {A X : Type 0} (name : A → List ℕ) (value : ℕ → A → X) (w : List ℕ × X → ℕ) (first : ℕ) (table : List (Option A)) → AreApart name table
    → total_of w (entries (from_entries {R = name_cmp} (filled_from name value first table))) ≡ total_of w (filled_from name value first table)
table_total {A} {X} name value w first [] apart =
    ap (total_of w) (empty-list (entries (finmap.empty {X = X} {R = name_cmp})) (sym (len-entries (finmap.empty {X = X} {R = name_cmp})) ∙ len-empty name_cmp X))
table_total name value w first (None ∷ table) apart = table_total name value w (first + 1) table (apart-rest name None table apart)
table_total {A} {X} name value w first (Some a ∷ table) apart =
    let rest = table_total name value w (first + 1) table (apart-rest name (Some a) table apart) in
    let es : List (List ℕ × X) = filled_from name value (first + 1) table in
    let m : FinMap name_cmp X = from_entries es in
    let none : find name_cmp (name a) (entries m) ≡ None =
    sym (get-entries m (name a)) ∙ get-from_entries total es (name a)
    ∙ find-other name value table (first + 1) (name a) (λ i b there same. never_later i (apart (suc i) 0 b a there refl (sym same))) in
    ap (total_of w) (entries-insert total m (name a) (value first a)) ∙ put_total w (name a) (value first a) (entries m) none ∙ ap (λ (n : ℕ). w (name a, value first a) + n) rest

filled_total : {A X : Type 0} (name : A → List ℕ) (value : ℕ → A → X) (w : List ℕ × X → ℕ) (first : ℕ) (table : List (Option A)) → total_of w (filled_from name value first table) ≡ sum_filled (λ slot a. w (name a, value slot a)) first table
filled_total name value w first [] = refl
filled_total name value w first (None ∷ table) = let at : first + 1 ≡ suc first = omega arith in filled_total name value w (first + 1) table ∙ ap (λ (n : ℕ). sum_filled (λ slot a. w (name a, value slot a)) n table) at
filled_total name value w first (Some a ∷ table) =
    let at : first + 1 ≡ suc first = omega arith in
    let rest = filled_total name value w (first + 1) table ∙ ap (λ (n : ℕ). sum_filled (λ slot a. w (name a, value slot a)) n table) at in
    ap (λ (n : ℕ). w (name a, value first a) + n) rest

-- what stands under a name
get_named : {A X : Type 0} (name : A → List ℕ) (value : ℕ → A → X) (table : List (Option A)) (i : ℕ) (a : A) → AreApart name table → at_slot i table ≡ Some a → get (by_name name value table) (name a) ≡ Some (value (0 + i) a)
get_named name value table i a apart there = get-from_entries total (filled_from name value 0 table) (name a) ∙ find-slot name value table 0 i a apart there

row_type_is : (o : Option RowTypeDef) (h : Heading) → option_map (λ r. r.heading) o ≡ Some h → (r : RowTypeDef) × (o ≡ Some r) × (r.heading ≡ h)
row_type_is None h is = absurd (let never : ⊥ = cc in never)
row_type_is (Some r) h is = (r, refl, cc)

-- the container of a series, found by its name
container_named : (l : Layout) (pages : ℕ) (slot : ℕ) (c : ContainerDef) → AreSound pages l.definitions → at_slot slot l.definitions.containers ≡ Some c → get (catalogue_of l).containers (name_at (λ x. x.name) slot l.definitions.containers) ≡ Some (container_of l.definitions c)
container_named l pages slot c sound there =
    let name : name_at (λ x. x.name) slot l.definitions.containers ≡ c.name = ap (λ (o : Option ContainerDef). unwrap_or (option_map (λ x. x.name) o) []) there in
    ap (get (catalogue_of l).containers) name ∙ get_named (λ x. x.name) (λ n x. container_of l.definitions x) l.definitions.containers slot c sound.tables.containers.apart there

-- its columns and its quota
pub columns_named : (l : Layout) (pages slot : ℕ) (s : SeriesDef) (c : ContainerDef) (h : Heading) → AreSound pages l.definitions → at_slot s.container l.definitions.containers ≡ Some c → heading_of_container l.definitions c ≡ Some h → columns_of (catalogue_of l) (series_of l slot s) ≡ h.columns
columns_named l pages slot s c h sound there heading =
    let r = row_type_is (at_slot c.row_type l.definitions.row_types) h heading in
    let name : name_at (λ x. x.name) c.row_type l.definitions.row_types ≡ r.0.name = ap (λ (o : Option RowTypeDef). unwrap_or (option_map (λ x. x.name) o) []) r.1 in
    let row : get (catalogue_of l).row_types (name_at (λ x. x.name) c.row_type l.definitions.row_types) ≡ Some h =
    ap (get (catalogue_of l).row_types) name ∙ get_named (λ x. x.name) (λ n x. x.heading) l.definitions.row_types c.row_type r.0 sound.tables.row_types.apart r.1 ∙ ap (λ (x : Heading). Some x) r.2 in
    ap (λ (o : Option Container). unwrap_or (option_map (λ x. x.columns) (option_and_then (λ x. get (catalogue_of l).row_types x.row_type) o)) []) (container_named l pages s.container c sound there)
    ∙ ap (λ (o : Option Heading). unwrap_or (option_map (λ x. x.columns) o) []) row

pub quota_named : (l : Layout) (pages slot : ℕ) (s : SeriesDef) (c : ContainerDef) → AreSound pages l.definitions → at_slot s.container l.definitions.containers ≡ Some c → quota_of (catalogue_of l) (series_of l slot s) ≡ c.quota
quota_named l pages slot s c sound there = ap (λ (o : Option Container). unwrap_or (option_map (λ x. x.quota) o) 0) (container_named l pages s.container c sound there)

-- the calendar that stands in a slot, found by its name
part_named : (l : Layout) (pages slot : ℕ) (c : CalendarDef) (by : Option ℕ) → AreSound pages l.definitions → at_slot slot l.definitions.calendars ≡ Some c → c.by ≡ by → pattern_of (catalogue_of l) (part_of l.definitions c by) ≡ Some c.calendar.pattern
part_named l pages slot c None sound there is = refl
part_named l pages slot c (Some at) sound there is =
    let p = calendar_refers l.definitions sound.tables sound.references slot c at there is in
    let name : name_at (λ x. x.name) at l.definitions.patterns ≡ p.0.name = ap (λ (o : Option PatternDef). unwrap_or (option_map (λ x. x.name) o) []) p.1 in
    let same = one_of (option_map (λ (x : PatternDef). x.pattern) (at_slot at l.definitions.patterns)) p.0.pattern c.calendar.pattern (ap (option_map (λ (x : PatternDef). x.pattern)) p.1) (sound.follow slot c there at is) in
    ap (get (catalogue_of l).patterns) name ∙ get_named (λ x. x.name) (λ n x. x.pattern) l.definitions.patterns at p.0 sound.tables.patterns.apart p.1 ∙ ap (λ (x : Plan). Some x) same

calendar_named : (l : Layout) (pages slot : ℕ) (c : CalendarDef) → AreSound pages l.definitions → at_slot slot l.definitions.calendars ≡ Some c
    → option_and_then (calendar_of (catalogue_of l)) (get (catalogue_of l).calendars (name_at (λ x. x.name) slot l.definitions.calendars)) ≡ Some c.calendar
calendar_named l pages slot c sound there =
    let name : name_at (λ x. x.name) slot l.definitions.calendars ≡ c.name = ap (λ (o : Option CalendarDef). unwrap_or (option_map (λ x. x.name) o) []) there in
    let found : get (catalogue_of l).calendars (name_at (λ x. x.name) slot l.definitions.calendars) ≡ Some (text_of l.definitions c) =
    ap (get (catalogue_of l).calendars) name ∙ get_named (λ x. x.name) (λ n x. text_of l.definitions x) l.definitions.calendars slot c sound.tables.calendars.apart there in
    ap (option_and_then (calendar_of (catalogue_of l))) found ∙ ap (option_map (with_plan (text_of l.definitions c))) (part_named l pages slot c c.by sound there refl)

-- where the elements of a series can stand, by the name of its calendar
pub shape_named : (l : Layout) (pages : ℕ) (regular : Option (ℕ × ℤ)) (shape : Shape) → AreSound pages l.definitions → shape_of l.definitions regular ≡ Some shape → shape_by_name (catalogue_of l) (kind_in l.definitions regular) ≡ Some shape
shape_named l pages None shape sound is = is
shape_named l pages (Some regular) shape sound is =
    let g = mapped Regular (grid_in l.definitions regular) shape is in
    let c = mapped (λ (x : CalendarDef). record { calendar = x.calendar; origin = regular.1 }) (at_slot regular.0 l.definitions.calendars) g.0 g.1 in
    ap (option_map (λ (plan : CalendarPlan). Regular (record { calendar = plan; origin = regular.1 }))) (calendar_named l pages regular.0 c.0 sound c.1)
    ∙ ap (λ (x : GridPlan). Some (Regular x)) c.2 ∙ ap (λ (x : Shape). Some x) g.2

-- so a series is charged by its columns and its shape
charge_shaped : (l : Layout) (pages slot : ℕ) (s : SeriesDef) (c : ContainerDef) (h : Heading) (shape : Shape) (es : Elements) → AreSound pages l.definitions → at_slot s.container l.definitions.containers ≡ Some c → heading_of_container l.definitions c ≡ Some h
    → shape_of l.definitions s.regular ≡ Some shape → series_charge (catalogue_of l) (record (series_of l slot s) { elements = es }) ≡ elements_charge h.columns shape es
charge_shaped l pages slot s c h shape es sound there heading lies =
    let columns = columns_named l pages slot s c h sound there heading in
    ap (λ (o : Option Shape). unwrap_or (option_map (λ x. elements_charge (columns_of (catalogue_of l) (series_of l slot s)) x es) o) 0) (shape_named l pages s.regular shape sound lies)
    ∙ ap (λ (cs : List Column). elements_charge cs shape es) columns

-- two names are one where their slots are
bytes_same : (a b : List ℕ) → a ≡ b → bytes_eq a b ≡ true
bytes_same a b same = eq_ties a b ∙ ap (λ (x : List ℕ). eq_by_cmp name_cmp x b) same ∙ ties-refl b

bytes_differ : (a b : List ℕ) → a ≢ b → bytes_eq a b ≡ false
bytes_differ a b other = elim (bytes_eq a b) as (λ (t : Bool). bytes_eq a b ≡ t → t ≡ false) [
  | true ↦ λ is. absurd (other (ties-same a b (sym (eq_ties a b) ∙ is)))
  | false ↦ λ is. refl
] refl

same_some : {A : Type 0} (o : Option A) (a b : A) → o ≡ Some a → o ≡ Some b → a ≡ b
same_some o a b first second = cc

-- the columns of a series, by its container
pub columns_there : (d : Definitions) (j : ℕ) (s : SeriesDef) (c : ContainerDef) (h : Heading) → at_slot j d.series ≡ Some s → at_slot s.container d.containers ≡ Some c → heading_of_container d c ≡ Some h → heading_at d j ≡ Some h
columns_there d j s c h here there heading = ap (option_and_then (λ (x : SeriesDef). heading_in d x.container)) here ∙ ap (option_and_then (heading_of_container d)) there ∙ heading

-- the elements of a series can stand somewhere
regular_shape : (d : Definitions) (regular : Option (ℕ × ℤ)) → ((at : ℕ) (origin : ℤ) → regular ≡ Some (at, origin) → (c : CalendarDef) × (at_slot at d.calendars ≡ Some c)) → (shape : Shape) × (shape_of d regular ≡ Some shape)
regular_shape d None found = (Irregular, refl)
regular_shape d (Some (at, origin)) found =
    let c = found at origin refl in
    (Regular (record { calendar = c.0.calendar; origin = origin }), ap (λ (o : Option CalendarDef). option_map Regular (option_map (λ x. record { calendar = x.calendar; origin = origin }) o)) c.1)

pub has_shape : {pages : ℕ} (d : Definitions) → AreSound pages d → (j : ℕ) (s : SeriesDef) → at_slot j d.series ≡ Some s → (shape : Shape) × (shape_of d s.regular ≡ Some shape)
has_shape d sound j s here = regular_shape d s.regular (λ at origin is. grid_refers d sound.tables sound.references j s at origin here is)

-- what one series is charged, by name and by slot
one_named : (l : Layout) (slot j : ℕ) (s : SeriesDef) (c : ContainerDef) (h : Heading) → IsSound l → AreFilled l → at_slot slot l.definitions.containers ≡ Some c → heading_of_container l.definitions c ≡ Some h → at_slot j l.definitions.series ≡ Some s
    → cond (bytes_eq (name_at (λ x. x.name) s.container l.definitions.containers) c.name) (series_charge (catalogue_of l) (series_of l (0 + j) s)) 0 ≡ charge_of_series l.element_pages slot (page_room h.columns) (0 + j) s
one_named l slot j s c h rules filled there heading here =
    let sound = rules.definitions in
    let within : j < 4096 = let z = within_table l.definitions.series j s here in omega (arith, z, sound.tables.series.size) in
    let own = has_container l.definitions sound.references j s within here in
    let name : name_at (λ x. x.name) s.container l.definitions.containers ≡ own.0.name = ap (λ (o : Option ContainerDef). unwrap_or (option_map (λ x. x.name) o) []) own.1 in
    let cost : ℕ = charge_on l.element_pages (page_room h.columns) (0 + j) s.regular in
    elim (cases_eq s.container slot) [
      | inl same ↦
          let is : own.0 ≡ c = same_some (at_slot slot l.definitions.containers) own.0 c (ap (λ (n : ℕ). at_slot n l.definitions.containers) (sym same) ∙ own.1) there in
          let t : bytes_eq (name_at (λ x. x.name) s.container l.definitions.containers) c.name ≡ true = bytes_same _ _ (name ∙ ap (λ (x : ContainerDef). x.name) is) in
          let u : (s.container == slot) ≡ true = grind (arith, nat_tests) in
          let at : j ≡ 0 + j = omega arith in
          let its : at_slot s.container l.definitions.containers ≡ Some c = ap (λ (n : ℕ). at_slot n l.definitions.containers) same ∙ there in
          let shown : heading_at l.definitions (0 + j) ≡ Some h = ap (heading_at l.definitions) (sym at) ∙ columns_there l.definitions j s c h here its heading in
          let shape = has_shape l.definitions sound j s here in
          let lies : shape_at l.definitions (0 + j) ≡ Some shape.0 = ap (shape_at l.definitions) (sym at) ∙ ap (option_and_then (λ (x : SeriesDef). shape_of l.definitions x.regular)) here ∙ shape.1 in
          let charge : series_charge (catalogue_of l) (series_of l (0 + j) s) ≡ cost =
          charge_shaped l (length l.element_pages) (0 + j) s c h shape.0 (elements_at (0 + j) l.element_pages) sound its heading shape.1
          ∙ shape_charged l (0 + j) h s.regular shape.0 rules filled shown lies shape.1 in
          ap (λ (b : Bool). cond b (series_charge (catalogue_of l) (series_of l (0 + j) s)) 0) t ∙ charge ∙ sym (ap (λ (b : Bool). if b then cost else 0) u)
      | inr other ↦
          let f : bytes_eq (name_at (λ x. x.name) s.container l.definitions.containers) c.name ≡ false =
          bytes_differ _ _ (λ is. other (sound.tables.containers.apart s.container slot own.0 c own.1 there (sym name ∙ is))) in
          let u : (s.container == slot) ≡ false = grind (arith, nat_tests) in
          ap (λ (b : Bool). cond b (series_charge (catalogue_of l) (series_of l (0 + j) s)) 0) f ∙ sym (ap (λ (b : Bool). if b then cost else 0) u)
    ]

-- what a container is charged, by name and by slot
pub charge_named : (l : Layout) (slot : ℕ) (c : ContainerDef) (h : Heading) → IsSound l → AreFilled l → at_slot slot l.definitions.containers ≡ Some c → heading_of_container l.definitions c ≡ Some h
    → charge_by_name c.name (catalogue_of l) ≡ charge_of_container l slot (page_room h.columns)
charge_named l slot c h rules filled there heading =
    let p : List ℕ × Series → Bool = λ e. bytes_eq e.1.container c.name in
    let g : List ℕ × Series → ℕ = λ e. series_charge (catalogue_of l) e.1 in
    filter_total p g (entries (catalogue_of l).series)
    ∙ table_total (λ s. s.key) (series_of l) (λ e. cond (p e) (g e) 0) 0 l.definitions.series rules.definitions.tables.series.apart
    ∙ filled_total (λ s. s.key) (series_of l) (λ e. cond (p e) (g e) 0) 0 l.definitions.series
    ∙ sum_same (λ j s. cond (p (s.key, series_of l j s)) (g (s.key, series_of l j s)) 0) (charge_of_series l.element_pages slot (page_room h.columns)) 0 l.definitions.series
    (λ j s here. one_named l slot j s c h rules filled there heading here)

-- the sum over a map with one entry set, and what was there before
set_same : {X : Type 0} (m : FinMap name_cmp X) (k : List ℕ) (x : X) → get m k ≡ Some x → insert m k x ≡ m
set_same {X} m k x there =
    same_map total same_name (insert m k x) m (λ q.
    get-insert total m k x q ∙ elim (eq_by_cmp name_cmp q k) as (λ (b : Bool). eq_by_cmp name_cmp q k ≡ b → cond b (Some x) (get m q) ≡ get m q) [
      | true ↦ λ t. sym there ∙ ap (get m) (sym (ties-same q k t))
      | false ↦ λ t. refl
    ] refl)

set_total : {X : Type 0} (w : List ℕ × X → ℕ) (m : FinMap name_cmp X) (k : List ℕ) (x : X) → total_of w (entries (insert m k x)) ≡ w (k, x) + total_of w (entries (remove m k))
set_total w m k x =
    let none : find name_cmp k (entries (remove m k)) ≡ None = sym (get-entries (remove m k) k) ∙ get-remove total m k k ∙ ap (λ (b : Bool). cond b None (get m k)) (ties-refl k) in
    ap (λ y. total_of w (entries y)) (sym (insert_removed m k x)) ∙ ap (total_of w) (entries-insert total (remove m k) k x) ∙ put_total w k x (entries (remove m k)) none

-- what a container is charged where one of its series has other elements
pub charge_with : (l : Layout) (pages slot : ℕ) (s : SeriesDef) (c : ContainerDef) (h : Heading) (shape : Shape) (es : Elements) → AreSound pages l.definitions → at_slot slot l.definitions.series ≡ Some s → at_slot s.container l.definitions.containers ≡ Some c → heading_of_container l.definitions c ≡ Some h
    → shape_of l.definitions s.regular ≡ Some shape
    → charge_by_name c.name (with_elements_at slot s es l) + elements_charge h.columns shape (elements_at slot l.element_pages)
    ≡ charge_by_name c.name (catalogue_of l) + elements_charge h.columns shape es
charge_with l pages slot s c h shape es sound here there heading lies =
    let cat : Catalogue = catalogue_of l in
    let old : Series = series_of l slot s in
    let new : Series = record (series_of l slot s) { elements = es } in
    let p : List ℕ × Series → Bool = λ e. bytes_eq e.1.container c.name in
    let g : List ℕ × Series → ℕ = λ e. series_charge (catalogue_of l) e.1 in
    let w : List ℕ × Series → ℕ = λ e. cond (p e) (g e) 0 in
    let at : 0 + slot ≡ slot = omega arith in
    let found : get cat.series s.key ≡ Some old = get_named (λ s. s.key) (series_of l) l.definitions.series slot s sound.tables.series.apart here ∙ ap (λ (n : ℕ). Some (series_of l n s)) at in
    let name : name_at (λ x. x.name) s.container l.definitions.containers ≡ c.name = ap (λ (o : Option ContainerDef). unwrap_or (option_map (λ x. x.name) o) []) there in
    let t : bytes_eq (name_at (λ x. x.name) s.container l.definitions.containers) c.name ≡ true = bytes_same _ _ name in
    let before : w (s.key, old) ≡ elements_charge h.columns shape (elements_at slot l.element_pages) =
    ap (λ (b : Bool). cond b (g (s.key, old)) 0) t ∙ charge_shaped l pages slot s c h shape (elements_at slot l.element_pages) sound there heading lies in
    let after : w (s.key, new) ≡ elements_charge h.columns shape es =
    ap (λ (b : Bool). cond b (g (s.key, new)) 0) t ∙ charge_shaped l pages slot s c h shape es sound there heading lies in
    let one : charge_by_name c.name cat ≡ w (s.key, old) + total_of w (entries (remove cat.series s.key)) =
    filter_total p g (entries cat.series) ∙ ap (λ m. total_of w (entries m)) (sym (set_same cat.series s.key old found)) ∙ set_total w cat.series s.key old in
    let two : charge_by_name c.name (record cat { series = insert cat.series s.key new }) ≡ w (s.key, new) + total_of w (entries (remove cat.series s.key)) =
    filter_total p g (entries (insert cat.series s.key new)) ∙ set_total w cat.series s.key new in
    omega (arith, one, two, before, after)
