-- What the container of a series has for it, by the sums that are kept.
use Rattle.std.proofs.Common.{◌≡◌, ℕ, ℤ, ◌+◌, ◌<◌, ◌≤◌, Option, Some, List, ap, sym, ◌∙◌, subst, arith}
use Rattle.std.specs.Option.{option_map, unwrap_or}
use Rattle.ts_row.specs.Row.{Heading}
use Rattle.ts_space.specs.Directory.{Directory, places_of}
use Rattle.ts_cells.specs.IrregularPage.{page_room}
use Rattle.ts_model.specs.declared.kind.Kind.TheVariants as kinds
use Rattle.ts_model.specs.declared.def.Def.TheVariants as defs
use Rattle.ts_model.specs.Definitions.{Definitions, ContainerDef, SeriesDef, of_container, of_series, at_slot, IsDefinitions}
use Rattle.ts_layout.specs.Meaning.{KeepLimits, def_at, heading_in, heading_at, heading_of_container}
use Rattle.ts_layout.specs.Charges.{KeepQuotas, places_charge, container_charge, charge_in}
use Rattle.ts_layout.proofs.CallerLemmas.{one_of, chained, at_slot-map, series_limit}
use Rattle.ts_container.specs.KeptCharges.{AreCharges}
use Rattle.ts_container.proofs.KeptChargeLemmas.{charge_part}
use Rattle.ts_shelf.specs.Shelf.{IsSeries}
use Rattle.ts_elements.specs.Room.{IsBudget}

same_container : (k key : List ℕ) (c container : ℕ) (r regular : Option (ℕ × ℤ)) → Some (defs.Series k c r) ≡ Some (defs.Series key container regular) → (c ≡ container) × (r ≡ regular)
same_container k key c container r regular is = (cc, cc)

same_quota : (n name : List ℕ) (r row_type q quota : ℕ) → Some (defs.Container n r q) ≡ Some (defs.Container name row_type quota) → q ≡ quota
same_quota n name r row_type q quota is = cc

-- a series that stands in a slot, of a container with a quota
module _ (d : Definitions) (space : Directory) (slot : ℕ) (h : Heading) (key : List ℕ) (container : ℕ) (regular : Option (ℕ × ℤ)) (within : slot < 4096) (limits : KeepLimits d) (columns : heading_at d slot ≡ Some h)
    (here : def_at kinds.Series slot d ≡ Some (defs.Series key container regular)) where
  pub inside : container < 64
  inside = series_limit d limits slot within key container regular here

  -- any definition that stands there is of this container, and lies so
  same_here : (s : SeriesDef) → at_slot slot d.series ≡ Some s → (s.container ≡ container) × (s.regular ≡ regular)
  same_here s there = same_container s.key key s.container container s.regular regular (sym (at_slot-map of_series slot d.series ∙ ap (option_map of_series) there) ∙ here)

  of_container_here : (s : SeriesDef) → at_slot slot d.series ≡ Some s → s.container ≡ container
  of_container_here s there = (same_here s there).0

  abbrev found : (s : SeriesDef) × (at_slot slot d.series ≡ Some s) × (heading_in d s.container ≡ Some h)
  found = chained (λ (s : SeriesDef). heading_in d s.container) (at_slot slot d.series) h columns

  heading : heading_in d container ≡ Some h
  heading = subst (λ (n : ℕ). heading_in d n ≡ Some h) (of_container_here found.0 found.1) found.2

  all_is : charge_in d space container ≡ container_charge d space container (page_room h.columns)
  all_is = ap (λ (o : Option Heading). unwrap_or (option_map (λ (y : Heading). container_charge d space container (page_room y.columns)) o) 0) heading

  -- the series is charged a part of what the container is
  pub own_part : (sums : List ℕ) → IsDefinitions d → AreCharges sums d space → places_charge (page_room h.columns) regular (places_of slot space) ≤ charge_in d space container
  own_part sums rules charges =
      let part = charge_part d space slot found.0 h sums rules found.1 (subst (λ (n : ℕ). n < 64) (sym (of_container_here found.0 found.1)) inside) found.2 charges in
      let sum = charges found.0.container (subst (λ (n : ℕ). n < 64) (sym (of_container_here found.0 found.1)) inside) in
      let same = ap (charge_in d space) (of_container_here found.0 found.1) in
      let lies = ap (λ (r : Option (ℕ × ℤ)). places_charge (page_room h.columns) r (places_of slot space)) (same_here found.0 found.1).1 in
      omega (arith, part, sum, same, lies)

  module _ (name : List ℕ) (row_type quota others : ℕ) (there : def_at kinds.Container container d ≡ Some (defs.Container name row_type quota)) (all : others + places_charge (page_room h.columns) regular (places_of slot space) ≡ charge_in d space container) where
    quota_of_here : (c : ContainerDef) → at_slot container d.containers ≡ Some c → c.quota ≡ quota
    quota_of_here c at = same_quota c.name name c.row_type row_type c.quota quota (sym (at_slot-map of_container container d.containers ∙ ap (option_map of_container) at) ∙ there)

    pub budget_here : (s : SeriesDef) (c : ContainerDef) (y : Heading) → IsSeries slot s c y d → IsBudget slot s c y d space others quota
    budget_here s c y is =
        let mine = of_container_here s is.there in
        let at : at_slot container d.containers ≡ Some c = subst (λ (n : ℕ). at_slot n d.containers ≡ Some c) mine is.container in
        let found_c = chained (heading_of_container d) (at_slot container d.containers) h heading in
        let same_c : found_c.0 ≡ c = one_of (at_slot container d.containers) found_c.0 c found_c.1 at in
        let heads : h ≡ y = one_of (heading_of_container d c) h y (ap (heading_of_container d) (sym same_c) ∙ found_c.2) is.heading in
        record {
          all = subst (λ (z : Heading). others + places_charge (page_room z.columns) s.regular (places_of slot space) ≡ container_charge d space s.container (page_room z.columns)) heads
              (ap (λ (r : Option (ℕ × ℤ)). others + places_charge (page_room h.columns) r (places_of slot space)) (same_here s is.there).1 ∙ all ∙ all_is ∙ ap (λ (n : ℕ). container_charge d space n (page_room h.columns)) (sym mine));
          quota_is = sym (quota_of_here c at);
        }

    pub others_within : KeepQuotas d space → others ≤ quota
    others_within quotas =
        let found_c = chained (heading_of_container d) (at_slot container d.containers) h heading in
        let paid = quotas container inside found_c.0 h found_c.1 found_c.2 in
        let most = quota_of_here found_c.0 found_c.1 in
        let sum = all_is in
        omega (arith, all, sum, paid, most)
