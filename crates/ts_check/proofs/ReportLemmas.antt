-- The report by slots is the report on the catalogue.
use Rattle.std.proofs.Common.{◌≡◌, inl, inr, ℕ, zero, suc, ◌+◌, ◌<◌, ◌==◌, Bool, true, false, cond, Option, Some, None, List, [], ◌∷◌, ◌++◌, map, length, slice_index, count_by, refl, ap, sym, ◌∙◌, subst, arith, zero-add}
use Rattle.std.specs.List.{filter, flat_map}
use Rattle.std.specs.Option.{option_map, option_and_then, unwrap_or}
use Rattle.std.specs.Ordering.{eq_by_cmp}
use Rattle.std.specs.Str.{bytes_eq}
use Rattle.std.specs.FinMap.{entries, values}
use Rattle.std.proofs.lemmas.Bool.{cases_eq}
use Rattle.std.proofs.lemmas.Bool.Decides.{nat_tests}
use Rattle.std.proofs.lemmas.List.Sums.{sum_by-cons}
use Rattle.ts_row.specs.Row.{Heading}
use Rattle.ts_cells.specs.IrregularPage.{page_room}
use Rattle.ts_space.specs.Directory.{Directory}
use Rattle.ts_model.specs.declared.kind.Kind.TheVariants as kinds
use Rattle.ts_model.specs.Catalogue.{name_cmp, Container, Series, series_in}
use Rattle.ts_model.specs.Charge.{container_charge as charge_by_name}
use Rattle.ts_model.specs.Definitions.{Definitions, RowTypeDef, ContainerDef, SeriesDef, of_container, of_series, name_of, at_slot, slots, slot_of}
use Rattle.ts_model.proofs.OrderLemmas.{eq_ties, ties-refl, ties-same}
use Rattle.ts_model.proofs.SlotLemmas.{AreApart, find-slot}
use Rattle.ts_model.proofs.TableLemmas.{slot_of-find}
use Rattle.ts_layout.specs.Meaning.{Layout, IsSound, heading_in, heading_of_container, container_of, series_of, catalogue_of}
use Rattle.ts_layout.specs.Surveyed.{ListsPlaces}
use Rattle.ts_layout.specs.Chains.{AreFilled}
use Rattle.ts_layout.specs.Charges.{charge_in, container_charge}
use Rattle.ts_layout.proofs.CallerLemmas.{one_of, own, at_slot-map, container_found, container_of_series, row_type_of_container, charge_pages, charge_named}
use Rattle.ts_container.specs.KeptCharges.{AreCharges}
use Rattle.ts_check.specs.Report.{container_line, line_of_container}
use Rattle.ts_check.specs.Listed.{is_of, count_among, count_of_series, line_at, line_if, lines_in_order}
use Rattle.ts_check.proofs.WalkLemmas.{with_value, walk, index_walk, value_walk, Stands, AllStand, walk_stands}

same_bytes : (a b : List ℕ) → a ≡ b → bytes_eq a b ≡ true
same_bytes a b same = eq_ties a b ∙ ap (λ (n : List ℕ). eq_by_cmp name_cmp a n) (sym same) ∙ ties-refl a

bytes_same : (a b : List ℕ) → bytes_eq a b ≡ true → a ≡ b
bytes_same a b is = ties-same a b (sym (eq_ties a b) ∙ is)

not_true : (b : Bool) → (b ≡ true → ⊥) → b ≡ false
not_true true never = absurd (never refl)
not_true false never = refl

one_slot : (i j : ℕ) → Some i ≡ Some j → i ≡ j
one_slot i j same = cc

abbrev container_name : ContainerDef → List ℕ
container_name c = c.name

abbrev series_key : SeriesDef → List ℕ
series_key s = s.key

within_table : {A : Type 0} (table : List (Option A)) (n : ℕ) (a : A) → at_slot n table ≡ Some a → n < length table
within_table [] n a here = absurd (cc)
within_table (x ∷ table) zero a here = omega arith
within_table (x ∷ table) (suc n) a here = let rest = within_table table n a here in omega (arith, rest)

-- the slot of a container's name
slot_named : (table : List (Option ContainerDef)) (slot : ℕ) (c : ContainerDef) → AreApart container_name table → at_slot slot table ≡ Some c → slot_of c.name (map (option_map of_container) table) ≡ Some slot
slot_named table slot c apart here =
    sym (slot_of-find (map (option_map of_container) table) c.name)
    ∙ find-slot name_of (λ slot def. slot) (map (option_map of_container) table) 0 slot (of_container c) apart_as_defs (at_slot-map of_container slot table ∙ ap (option_map of_container) here)
    ∙ ap (λ (n : ℕ). Some n) (zero-add slot)
  where
    apart_as_defs : AreApart name_of (map (option_map of_container) table)
    apart_as_defs i j a b one other same =
        let first = own of_container i table a one in
        let second = own of_container j table b other in
        apart i j first.0 second.0 first.1 second.1 (ap name_of first.2 ∙ same ∙ sym (ap name_of second.2))

-- a series stands in the container of that name exactly where it refers to its slot
module _ (l : Layout) (name : List ℕ) (holder : ℕ) (rules : IsSound l) (is : slot_of name (slots kinds.Container l.definitions) ≡ Some holder) where
  module _ (slot : ℕ) (s : SeriesDef) (here : at_slot slot l.definitions.series ≡ Some s) where
    names_meet : s.container ≡ holder → (series_of l slot s).container ≡ name
    names_meet same =
        let own = container_of_series l slot s rules here in
        let found = container_found l name holder rules is in
        sym own.1.its_name
        ∙ ap (λ (c : ContainerDef). c.name) (one_of (at_slot holder l.definitions.containers) own.0 found.0 (ap (λ (n : ℕ). at_slot n l.definitions.containers) (sym same) ∙ own.1.there) found.1.there)
        ∙ found.1.its_name

    slots_meet : (series_of l slot s).container ≡ name → s.container ≡ holder
    slots_meet same =
        let own = container_of_series l slot s rules here in
        one_slot s.container holder (sym own.1.named ∙ ap (λ (n : List ℕ). slot_of n (slots kinds.Container l.definitions)) same ∙ is)

    same_test : bytes_eq (series_of l slot s).container name ≡ (s.container == holder)
    same_test = elim (cases_eq s.container holder) [
      | inl same ↦
          let t : (s.container == holder) ≡ true = grind (arith, nat_tests) in
          same_bytes (series_of l slot s).container name (names_meet same) ∙ sym t
      | inr other ↦
          let f : (s.container == holder) ≡ false = grind (arith, nat_tests) in
          not_true (bytes_eq (series_of l slot s).container name) (λ t. other (slots_meet (bytes_same (series_of l slot s).container name t))) ∙ sym f
    ]

  abbrev stands_in : List ℕ × Series → Bool
  stands_in e = bytes_eq e.1.container name

  abbrev of_walk : List ℕ × (ℕ × SeriesDef) → List ℕ × Series
  of_walk = with_value (λ p. series_of l p.0 p.1)

  -- as many slots as series of the catalogue
  all_counted : (ws : List (List ℕ × (ℕ × SeriesDef))) → AllStand series_key of_series (λ s. refl) l.definitions.series ws
      → count_among l.definitions holder (map (λ e. e.1.0) ws) ≡ length (filter stands_in (map of_walk ws))
  all_counted [] all = refl
  all_counted (w ∷ ws) all =
      let rest = all_counted ws all.1 in
      let more = count_among l.definitions holder (map (λ e. e.1.0) ws) in
      let whole : List (List ℕ × Series) = filter stands_in (map of_walk ws) in
      sum_by-cons (λ (slot : ℕ). cond (is_of holder (at_slot slot l.definitions.series)) 1 0) w.1.0 (map (λ e. e.1.0) ws)
      ∙ ap (λ (o : Option SeriesDef). cond (is_of holder o) 1 0 + more) all.0.there
      ∙ elim (w.1.1.container == holder) as (λ (b : Bool). cond b 1 0 + more ≡ length (cond b (of_walk w ∷ whole) whole)) [
        | true ↦ omega (arith, rest)
        | false ↦ omega (arith, rest)
      ]
      ∙ ap (λ (b : Bool). length (cond b (of_walk w ∷ whole) whole)) (sym (same_test w.1.0 w.1.1 all.0.there))

  pub series_counted : count_of_series l.definitions holder ≡ length (series_in name (catalogue_of l))
  series_counted =
      ap (count_among l.definitions holder) (index_walk series_key of_series (λ s. refl) l.definitions.series)
      ∙ all_counted (walk series_key of_series (λ s. refl) l.definitions.series) (walk_stands series_key of_series (λ s. refl) l.definitions.series)
      ∙ ap (λ (es : List (List ℕ × Series)). length (filter stands_in es)) (sym (value_walk series_key of_series (λ s. refl) (series_of l) l.definitions.series))

-- the lines of containers
module _ (l : Layout) (space : Directory) (charges : List ℕ) (rules : IsSound l) (filled : AreFilled l) (lists : ListsPlaces space l) (charged : AreCharges charges l.definitions space) where
  charge_is : (slot : ℕ) (c : ContainerDef) → at_slot slot l.definitions.containers ≡ Some c → charge_in l.definitions space slot ≡ charge_by_name c.name (catalogue_of l)
  charge_is slot c there =
      let r = row_type_of_container l slot c rules there in
      let heading : heading_of_container l.definitions c ≡ Some r.0.heading = ap (option_map (λ (x : RowTypeDef). x.heading)) r.1.there in
      let inside : heading_in l.definitions slot ≡ Some r.0.heading = ap (option_and_then (heading_of_container l.definitions)) there ∙ heading in
      ap (λ (o : Option Heading). unwrap_or (option_map (λ (h : Heading). container_charge l.definitions space slot (page_room h.columns)) o) 0) inside
      ∙ charge_pages l space slot (page_room r.0.heading.columns) rules.definitions.tables lists
      ∙ sym (charge_named l slot c r.0.heading rules filled there heading)

  one_line : (e : List ℕ × (ℕ × ContainerDef)) → Stands container_name of_container (λ c. refl) l.definitions.containers e
      → line_at l.definitions charges e.1.0 ≡ line_of_container (catalogue_of l) (with_value (λ p. container_of l.definitions p.1) e)
  one_line e stands =
      let slot = e.1.0 in
      let c = e.1.1 in
      let below = within_table l.definitions.containers slot c stands.there in
      let within : slot < 64 = omega (arith, below, rules.definitions.tables.containers.size) in
      let is : slot_of e.0 (slots kinds.Container l.definitions) ≡ Some slot =
      ap (λ (n : List ℕ). slot_of n (slots kinds.Container l.definitions)) stands.its_name ∙ slot_named l.definitions.containers slot c rules.definitions.tables.containers.apart stands.there in
      let charge : slice_index charges slot ≡ charge_by_name e.0 (catalogue_of l) =
      charged slot within ∙ charge_is slot c stands.there ∙ ap (λ (n : List ℕ). charge_by_name n (catalogue_of l)) (sym stands.its_name) in
      ap (line_if l.definitions charges slot) stands.there
      ∙ (λ i. container_line (sym stands.its_name i) (charge i) c.quota (series_counted l e.0 slot rules is i))

  all_lines : (ws : List (List ℕ × (ℕ × ContainerDef))) → AllStand container_name of_container (λ c. refl) l.definitions.containers ws
      → flat_map (line_at l.definitions charges) (map (λ e. e.1.0) ws) ≡ flat_map (line_of_container (catalogue_of l)) (map (with_value (λ p. container_of l.definitions p.1)) ws)
  all_lines [] all = refl
  all_lines (w ∷ ws) all = λ i. one_line w all.0 i ++ all_lines ws all.1 i

  pub lines_of_catalogue : lines_in_order l.definitions charges ≡ flat_map (line_of_container (catalogue_of l)) (entries (catalogue_of l).containers)
  lines_of_catalogue =
      ap (flat_map (line_at l.definitions charges)) (index_walk container_name of_container (λ c. refl) l.definitions.containers)
      ∙ all_lines (walk container_name of_container (λ c. refl) l.definitions.containers) (walk_stands container_name of_container (λ c. refl) l.definitions.containers)
      ∙ ap (flat_map (line_of_container (catalogue_of l))) (sym (value_walk container_name of_container (λ c. refl) (λ slot c. container_of l.definitions c) l.definitions.containers))
