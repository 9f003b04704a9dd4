-- Series in the order of their keys: the slots of the index, and the entries of the catalogue.
use Rattle.std.proofs.Common.{◌≡◌, inl, inr, ℕ, ℤ, is_some, zero, suc, ◌+◌, ◌<◌, ◌==◌, Bool, true, false, cond, Option, Some, None, List, [], ◌∷◌, ◌++◌, map, length, refl, ap, sym, ◌∙◌, subst, arith, zero-add, add-zero}
use Rattle.std.specs.List.{filter, flat_map}
use Rattle.std.specs.Option.{option_map}
use Rattle.std.specs.Ordering.{eq_by_cmp}
use Rattle.std.specs.Str.{bytes_eq}
use Rattle.std.specs.declared.cmp.Ordering.{Ordering}
use Rattle.std.specs.declared.cmp.Ordering.TheVariants.{Less, Equal, Greater}
use Rattle.std.specs.FinMap.{put, entries, values, len, empty, from_entries, entries-insert, len-entries, len-empty}
use Rattle.std.specs.FinMap.Entries.{by_order}
use Rattle.std.proofs.lemmas.Bool.{cases_eq}
use Rattle.std.proofs.lemmas.List.{append-nil}
use Rattle.std.proofs.lemmas.Bool.Decides.{nat_tests}
use Rattle.ts_space.specs.Directory.{Directory, places_of}
use Rattle.ts_space.specs.Place.{count_of}
use Rattle.ts_model.specs.declared.kind.Kind.TheVariants as kinds
use Rattle.ts_model.specs.declared.def.Def.TheVariants as defs
use Rattle.ts_model.specs.Catalogue.{name_cmp, Series, is_regular, series_in}
use Rattle.ts_model.specs.Definitions.{Definitions, SeriesDef, ContainerDef, of_series, name_of, at_slot, slots, slot_of, filled_from, slots_by_name, by_name}
use Rattle.ts_model.proofs.OrderLemmas.{total, same_name, eq_ties, ties-refl, ties-same}
use Rattle.ts_model.proofs.IndexLemmas.{empty-list}
use Rattle.ts_layout.specs.Meaning.{Layout, IsSound, kind_in, series_of, catalogue_of}
use Rattle.ts_layout.specs.Surveyed.{ListsPlaces}
use Rattle.ts_layout.specs.Chains.{AreFilled}
use Rattle.ts_layout.proofs.CallerLemmas.{one_of, own as own_def, container_found, container_of_series, len_counted}
use Rattle.ts_answer.specs.Reply.{series_line}
use Rattle.ts_tell.specs.Listed.{listed_if, listed_at}

-- an entry with another value
abbrev pub with_value : {X Y : Type 0} → (X → Y) → List ℕ × X → List ℕ × Y
with_value f e = (e.0, f e.1)

put_map : {X Y : Type 0} (f : X → Y) (k : List ℕ) (v : X) (es : List (List ℕ × X)) → put name_cmp k (f v) (map (with_value f) es) ≡ map (with_value f) (put name_cmp k v es)
put_map f k v [] = refl
put_map {X} {Y} f k v (e ∷ es) =
    elim (name_cmp k e.0) as (λ (r : Ordering). by_order r ((k, f v) ∷ with_value f e ∷ map (with_value f) es) ((e.0, f v) ∷ map (with_value f) es) (with_value f e ∷ put name_cmp k (f v) (map (with_value f) es)) ≡ map (with_value f) (by_order r ((k, v) ∷ e ∷ es) ((e.0, v) ∷ es) (e ∷ put name_cmp k v es))) [
      | Less ↦ refl
      | Equal ↦ refl
      | Greater ↦ ap (λ (rest : List (List ℕ × Y)). with_value f e ∷ rest) (put_map f k v es)
    ]

no_entries : {X : Type 0} → entries (empty {X = X} {R = name_cmp}) ≡ []
no_entries {X} = empty-list (entries (empty {X = X} {R = name_cmp})) (sym (len-entries (empty {X = X} {R = name_cmp})) ∙ len-empty name_cmp X)

entries_map : {X Y : Type 0} (f : X → Y) (es : List (List ℕ × X)) → entries (from_entries {R = name_cmp} (map (with_value f) es)) ≡ map (with_value f) (entries (from_entries {R = name_cmp} es))
entries_map {X} {Y} f [] = no_entries {X = Y} ∙ sym (ap (map (with_value f)) (no_entries {X = X}))
entries_map {X} {Y} f (e ∷ es) =
    entries-insert total (from_entries {R = name_cmp} (map (with_value f) es)) e.0 (f e.1)
    ∙ ap (put name_cmp e.0 (f e.1)) (entries_map f es)
    ∙ put_map f e.0 e.1 (entries (from_entries {R = name_cmp} es))
    ∙ sym (ap (map (with_value f)) (entries-insert total (from_entries {R = name_cmp} es) e.0 e.1))

-- the filled slots, with their numbers and definitions
abbrev pub slotted : ℕ → List (Option SeriesDef) → List (List ℕ × (ℕ × SeriesDef))
slotted first table = filled_from (λ s. s.key) (λ n s. (n, s)) first table

-- the same in the order of the keys
abbrev pub walk : List (Option SeriesDef) → List (List ℕ × (ℕ × SeriesDef))
walk table = entries (from_entries {R = name_cmp} (slotted 0 table))

filled_values : {X : Type 0} (value : ℕ → SeriesDef → X) (first : ℕ) (table : List (Option SeriesDef)) → filled_from (λ s. s.key) value first table ≡ map (with_value (λ p. value p.0 p.1)) (slotted first table)
filled_values value first [] = refl
filled_values value first (None ∷ table) = filled_values value (first + 1) table
filled_values {X} value first (Some s ∷ table) = ap (λ (rest : List (List ℕ × X)). (s.key, value first s) ∷ rest) (filled_values value (first + 1) table)

filled_as_defs : (first : ℕ) (table : List (Option SeriesDef)) → filled_from name_of (λ slot def. slot) first (map (option_map of_series) table) ≡ filled_from (λ s. s.key) (λ slot s. slot) first table
filled_as_defs first [] = refl
filled_as_defs first (None ∷ table) = filled_as_defs (first + 1) table
filled_as_defs first (Some s ∷ table) = ap (λ (rest : List (List ℕ × ℕ)). (s.key, first) ∷ rest) (filled_as_defs (first + 1) table)

numbers : (ws : List (List ℕ × (ℕ × SeriesDef))) → map (λ e. e.1) (map (with_value (λ p. p.0)) ws) ≡ map (λ e. e.1.0) ws
numbers [] = refl
numbers (w ∷ ws) = ap (λ (rest : List ℕ). w.1.0 ∷ rest) (numbers ws)

-- the index is the walk by numbers
pub index_walk : (table : List (Option SeriesDef)) → values (slots_by_name (map (option_map of_series) table)) ≡ map (λ e. e.1.0) (walk table)
index_walk table =
    ap (λ (es : List (List ℕ × ℕ)). map (λ (e : List ℕ × ℕ). e.1) (entries (from_entries {R = name_cmp} es))) (filled_as_defs 0 table ∙ filled_values (λ slot s. slot) 0 table)
    ∙ ap (map (λ (e : List ℕ × ℕ). e.1)) (entries_map (λ (p : ℕ × SeriesDef). p.0) (slotted 0 table)) ∙ numbers (walk table)

-- the catalogue's entries are the walk by series
pub series_walk : (l : Layout) (table : List (Option SeriesDef)) → entries (by_name (λ s. s.key) (series_of l) table) ≡ map (with_value (λ p. series_of l p.0 p.1)) (walk table)
series_walk l table =
    ap (λ (es : List (List ℕ × Series)). entries (from_entries {R = name_cmp} es)) (filled_values (series_of l) 0 table)
    ∙ entries_map (λ (p : ℕ × SeriesDef). series_of l p.0 p.1) (slotted 0 table)

-- what is walked stands in the slots, under its key
abbrev pub Stands : List (Option SeriesDef) → List ℕ × (ℕ × SeriesDef) → Type 0
Stands table e = (at_slot e.1.0 table ≡ Some e.1.1) × (e.0 ≡ e.1.1.key)

abbrev pub AllStand : List (Option SeriesDef) → List (List ℕ × (ℕ × SeriesDef)) → Type 0
AllStand table [] = Unit {0}
AllStand table (e ∷ es) = Stands table e × AllStand table es

put_stands : (table : List (Option SeriesDef)) (k : List ℕ) (v : ℕ × SeriesDef) (es : List (List ℕ × (ℕ × SeriesDef))) → Stands table (k, v) → AllStand table es → AllStand table (put name_cmp k v es)
put_stands table k v [] here all = (here, tt)
put_stands table k v (e ∷ es) here all =
    elim (name_cmp k e.0) as (λ (r : Ordering). name_cmp k e.0 ≡ r → AllStand table (by_order r ((k, v) ∷ e ∷ es) ((e.0, v) ∷ es) (e ∷ put name_cmp k v es))) [
      | Less ↦ λ is. (here, all)
      | Equal ↦ λ is. ((here.0, sym (same_name k e.0 is) ∙ here.1), all.1)
      | Greater ↦ λ is. (all.0, put_stands table k v es here all.1)
    ] refl

filled_stand : (whole : List (Option SeriesDef)) (first : ℕ) (table : List (Option SeriesDef)) → ((i : ℕ) (s : SeriesDef) → at_slot i table ≡ Some s → at_slot (first + i) whole ≡ Some s) → AllStand whole (entries (from_entries {R = name_cmp} (slotted first table)))
filled_stand whole first [] part = subst (AllStand whole) (sym (no_entries {X = ℕ × SeriesDef})) tt
filled_stand whole first (None ∷ table) part =
    filled_stand whole (first + 1) table (λ i s here.
    let e : first + suc i ≡ first + 1 + i = omega arith in
    subst (λ (n : ℕ). at_slot n whole ≡ Some s) e (part (suc i) s here))
filled_stand whole first (Some s ∷ table) part =
    let rest = filled_stand whole (first + 1) table (λ i a here.
    let e : first + suc i ≡ first + 1 + i = omega arith in
    subst (λ (n : ℕ). at_slot n whole ≡ Some a) e (part (suc i) a here)) in
    let here : at_slot first whole ≡ Some s = subst (λ (n : ℕ). at_slot n whole ≡ Some s) (add-zero first) (part 0 s refl) in
    subst (AllStand whole) (sym (entries-insert total (from_entries {R = name_cmp} (slotted (first + 1) table)) s.key (first, s)))
    (put_stands whole s.key (first, s) (entries (from_entries {R = name_cmp} (slotted (first + 1) table))) (here, refl) rest)

pub walk_stands : (table : List (Option SeriesDef)) → AllStand table (walk table)
walk_stands table = filled_stand table 0 table (λ i s here. subst (λ (n : ℕ). at_slot n table ≡ Some s) (sym (zero-add i)) here)

within_table : (table : List (Option SeriesDef)) (n : ℕ) (s : SeriesDef) → at_slot n table ≡ Some s → n < length table
within_table [] n s here = absurd (cc)
within_table (x ∷ table) zero s here = omega arith
within_table (x ∷ table) (suc n) s here = let rest = within_table table n s here in omega (arith, rest)

same_bytes : (a b : List ℕ) → a ≡ b → bytes_eq a b ≡ true
same_bytes a b same = eq_ties a b ∙ ap (λ (n : List ℕ). eq_by_cmp name_cmp a n) (sym same) ∙ ties-refl a

bytes_same : (a b : List ℕ) → bytes_eq a b ≡ true → a ≡ b
bytes_same a b is = ties-same a b (sym (eq_ties a b) ∙ is)

not_true : (b : Bool) → (b ≡ true → ⊥) → b ≡ false
not_true true never = absurd (never refl)
not_true false never = refl

one_slot : (i j : ℕ) → Some i ≡ Some j → i ≡ j
one_slot i j same = cc

-- whether a series is regular, by its slot and by its kind
pub lies_as : (d : Definitions) (regular : Option (ℕ × ℤ)) → is_some regular ≡ is_regular (kind_in d regular)
lies_as d None = refl
lies_as d (Some regular) = refl

-- a series stands in the container of that name exactly where it refers to its slot
module _ (l : Layout) (name : List ℕ) (holder : ℕ) (rules : IsSound l) (is : slot_of name (slots kinds.Container l.definitions) ≡ Some holder) (slot : ℕ) (s : SeriesDef) (here : at_slot slot l.definitions.series ≡ Some s) where
  names_meet : s.container ≡ holder → (series_of l slot s).container ≡ name
  names_meet same =
      let own = container_of_series l slot s rules here in
      let found = container_found l name holder rules is in
      sym own.1.its_name
      ∙ ap (λ (c : ContainerDef). c.name) (one_of (at_slot holder l.definitions.containers) own.0 found.0 (ap (λ (n : ℕ). at_slot n l.definitions.containers) (sym same) ∙ own.1.there) found.1.there)
      ∙ found.1.its_name

  slots_meet : (series_of l slot s).container ≡ name → s.container ≡ holder
  slots_meet same =
      let own = container_of_series l slot s rules here in
      one_slot s.container holder (sym own.1.named ∙ ap (λ (n : List ℕ). slot_of n (slots kinds.Container l.definitions)) same ∙ is)

  pub same_test : bytes_eq (series_of l slot s).container name ≡ (s.container == holder)
  same_test = elim (cases_eq s.container holder) [
    | inl same ↦
        let t : (s.container == holder) ≡ true = grind (arith, nat_tests) in
        same_bytes (series_of l slot s).container name (names_meet same) ∙ sym t
    | inr other ↦
        let f : (s.container == holder) ≡ false = grind (arith, nat_tests) in
        not_true (bytes_eq (series_of l slot s).container name) (λ t. other (slots_meet (bytes_same (series_of l slot s).container name t))) ∙ sym f
  ]

-- what is listed, slot by slot, are the series of the container, whether each is regular, and the numbers of their elements
module _ (l : Layout) (space : Directory) (name : List ℕ) (holder : ℕ) (rules : IsSound l) (filled : AreFilled l) (lists : ListsPlaces space l) (is : slot_of name (slots kinds.Container l.definitions) ≡ Some holder) where
  abbrev told : List ℕ × Series → List ℕ × Bool × ℕ
  told e = (e.0, is_regular e.1.kind, len e.1.elements)

  abbrev stands_in : List ℕ × Series → Bool
  stands_in e = bytes_eq e.1.container name

  abbrev of_walk : List ℕ × (ℕ × SeriesDef) → List ℕ × Series
  of_walk e = (e.0, series_of l e.1.0 e.1.1)

  counted_here : (e : List ℕ × (ℕ × SeriesDef)) → Stands l.definitions.series e → (e.1.1.key, is_some e.1.1.regular, count_of (places_of e.1.0 space)) ≡ told (of_walk e)
  counted_here e stands =
      let size = rules.definitions.tables.series.size in
      let below = within_table l.definitions.series e.1.0 e.1.1 stands.0 in
      let within : e.1.0 < 4096 = omega (arith, below, size) in
      (λ i. (sym stands.1 i, lies_as l.definitions e.1.1.regular i, sym (len_counted l space e.1.0 rules filled lists within) i))

  one_listed : (e : List ℕ × (ℕ × SeriesDef)) (rest : List (List ℕ × Series)) (more : List (List ℕ × Bool × ℕ)) → Stands l.definitions.series e → more ≡ map told rest
      → listed_at l.definitions space holder e.1.0 ++ more ≡ map told (cond (stands_in (of_walk e)) (of_walk e ∷ rest) rest)
  one_listed e rest more stands same =
      ap (λ (o : Option SeriesDef). listed_if space holder e.1.0 o ++ more) stands.0
      ∙ elim (e.1.1.container == holder) as (λ (b : Bool). (cond b ((e.1.1.key, is_some e.1.1.regular, count_of (places_of e.1.0 space)) ∷ []) [] ++ more) ≡ map told (cond b (of_walk e ∷ rest) rest)) [
        | true ↦ (λ i. counted_here e stands i ∷ same i)
        | false ↦ same
      ]
      ∙ ap (λ (b : Bool). map told (cond b (of_walk e ∷ rest) rest)) (sym (same_test l name holder rules is e.1.0 e.1.1 stands.0))

  all_listed : (ws : List (List ℕ × (ℕ × SeriesDef))) → AllStand l.definitions.series ws → flat_map (listed_at l.definitions space holder) (map (λ e. e.1.0) ws) ≡ map told (filter stands_in (map of_walk ws))
  all_listed [] all = refl
  all_listed (w ∷ ws) all = one_listed w (filter stands_in (map of_walk ws)) (flat_map (listed_at l.definitions space holder) (map (λ e. e.1.0) ws)) all.0 (all_listed ws all.1)

  pub listed_in_order : flat_map (listed_at l.definitions space holder) (values (slots_by_name (slots kinds.Series l.definitions))) ≡ map (λ e. (e.0, is_regular e.1.kind, len e.1.elements)) (series_in name (catalogue_of l))
  listed_in_order =
      ap (flat_map (listed_at l.definitions space holder)) (index_walk l.definitions.series)
      ∙ all_listed (walk l.definitions.series) (walk_stands l.definitions.series)
      ∙ ap (λ (es : List (List ℕ × Series)). map told (filter stands_in es)) (sym (series_walk l l.definitions.series))

-- the line of the series in a slot
module _ (d : Definitions) (space : Directory) (container slot : ℕ) (key : List ℕ) (own : ℕ) (regular : Option (ℕ × ℤ)) (is : at_slot slot (slots kinds.Series d) ≡ Some (defs.Series key own regular)) (same : own ≡ container) where
  listed_as : (s : SeriesDef) → s.key ≡ key → s.regular ≡ regular → s.container ≡ container → listed_if space container slot (Some s) ≡ (key, is_some regular, count_of (places_of slot space)) ∷ []
  listed_as s name lies holder =
      let t : (s.container == container) ≡ true = grind (arith, nat_tests) in
      ap (λ (b : Bool). cond b ((s.key, is_some s.regular, count_of (places_of slot space)) ∷ []) []) t ∙ (λ i. (name i, is_some (lies i), count_of (places_of slot space)) ∷ [])

  listed_one : listed_at d space container slot ≡ (key, is_some regular, count_of (places_of slot space)) ∷ []
  listed_one =
      let there = own_def of_series slot d.series (defs.Series key own regular) is in
      let def = there.2 in
      let name : there.0.key ≡ key = cc in
      let lies : there.0.regular ≡ regular = cc in
      let holder : there.0.container ≡ own = cc in
      ap (listed_if space container slot) there.1 ∙ listed_as there.0 name lies (holder ∙ same)

  pub line_of_one : (read : List ℕ) (said : Bool) (count : ℕ) → read ≡ key → said ≡ is_some regular → count ≡ count_of (places_of slot space) → series_line (read, said, count) ≡ flat_map series_line (listed_at d space container slot)
  line_of_one read said count name lies counted =
      (λ i. series_line (name i, lies i, counted i)) ∙ sym (append-nil (series_line (key, is_some regular, count_of (places_of slot space))))
      ∙ sym (ap (flat_map series_line) listed_one)
