-- The pages that are free and those of a series are as many as it may be charged beside the others; and its elements can be counted.
use Rattle.std.specs.Prelude.{All}
use Rattle.std.proofs.Common.{◌≡◌, ◌≢◌, ℕ, ℤ, ◌+◌, ◌*◌, ◌/◌, ◌<◌, ◌≤◌, Option, Some, None, List, [], ◌∷◌, length, set, refl, sym, ap, subst, ◌∙◌, arith, length-set, get_or-set_same, get_or-set_other, inl, inr, ◌⊎◌}
use Rattle.std.specs.Option.{option_and_then}
use Rattle.std.proofs.lemmas.Bool.{cases_eq, cases_lt}
use Rattle.std.proofs.lemmas.List.Sums.{sum_by-set, sum_by-le, get_or-le-sum_by}
use Rattle.std.proofs.Math.Nat.{le-div_iff_mul-le}
use Rattle.ts_row.specs.declared.kind.Column.{Column}
use Rattle.ts_row.specs.Row.{Heading, width_of}
use Rattle.ts_space.specs.declared.place.Place.{Place}
use Rattle.ts_space.specs.Place.{count_of}
use Rattle.ts_space.specs.Directory.{Directory, places_of, used_of}
use Rattle.ts_cells.specs.IrregularPage.{page_room}
use Rattle.ts_page.specs.Pages.{first_element_page}
use Rattle.ts_offset.specs.declared.shape.Shape.{Shape}
use Rattle.ts_offset.specs.declared.shape.Shape.TheVariants.{Irregular, Regular}
use Rattle.ts_model.specs.Charge.{elements_charge}
use Rattle.ts_model.specs.Definitions.{Definitions, ContainerDef, SeriesDef, at_slot, IsDefinitions}
use Rattle.ts_layout.specs.Sheets.{room_of}
use Rattle.ts_layout.specs.Meaning.{Layout, heading_in, heading_at, heading_of_container, shape_of, shape_at, elements_at, charge_of_container, AreSound, IsSound}
use Rattle.ts_layout.specs.Surveyed.{ListsPlaces}
use Rattle.ts_layout.specs.Charges.{AreCountable, places_charge, container_charge, KeepQuotas}
use Rattle.ts_layout.specs.Chains.{AreFilled}
use Rattle.ts_layout.specs.Held.{IsHeldOf}
use Rattle.ts_layout.specs.Placed.{AreKept}
use Rattle.ts_layout.proofs.ChargeLemmas.{room_some}
use Rattle.ts_layout.proofs.ShapeLemmas.{lists_counted, one_charged, charge_same, quotas_listed}
use Rattle.ts_layout.proofs.SeriesChargeLemmas.{shape_charged}
use Rattle.ts_layout.proofs.LayoutLemmas.{none≢some, chained, within_table}
use Rattle.ts_layout.proofs.ChainCountLemmas.{IsPlaceAt, its_places, places_charged}
use Rattle.ts_layout.proofs.UsedLemmas.{IsCharged, AreCharged, used_more}
pub use Rattle.ts_layout.proofs.UsedLemmas.{nothing_charged}
use Rattle.ts_layout.proofs.HeldLemmas.{free_left}
use Rattle.ts_layout.proofs.ListedLemmas.{charge_own, charge_others}

-- the directory charges what the pages do
pub charge_pages : (l : Layout) (space : Directory) (container room : ℕ) → IsDefinitions l.definitions → ListsPlaces space l → container_charge l.definitions space container room ≡ charge_of_container l container room
charge_pages l space container room rules lists = charge_same l.definitions space l.element_pages container room rules (λ slot within. lists_counted l space slot lists within)

-- the directory keeps the quotas that the layout keeps
pub listed_quotas : (l : Layout) (space : Directory) → IsSound l → ListsPlaces space l → KeepQuotas l.definitions space
listed_quotas l space sound lists = quotas_listed l.definitions space l.element_pages sound.definitions.tables (λ slot within. lists_counted l space slot lists within) sound.charges

-- a series is charged by its elements what it is by its places
pub charge_elements : (l : Layout) (space : Directory) (slot : ℕ) (s : SeriesDef) (h : Heading) (shape : Shape) → IsSound l → AreFilled l → ListsPlaces space l → slot < 4096 → at_slot slot l.definitions.series ≡ Some s
    → heading_at l.definitions slot ≡ Some h → shape_of l.definitions s.regular ≡ Some shape → elements_charge h.columns shape (elements_at slot l.element_pages) ≡ places_charge (page_room h.columns) s.regular (places_of slot space)
charge_elements l space slot s h shape sound filled lists within here heading lies =
    let at : shape_at l.definitions slot ≡ Some shape = ap (option_and_then (λ (x : SeriesDef). shape_of l.definitions x.regular)) here ∙ lies in
    shape_charged l slot h s.regular shape sound filled heading at lies ∙ sym (one_charged space l.element_pages (page_room h.columns) slot s.regular (lists_counted l space slot lists within))

same_some : {A : Type 0} (o : Option A) (a b : A) → o ≡ Some a → o ≡ Some b → a ≡ b
same_some o a b first second = cc

-- quotas are kept where the places of one series change, and its container is charged its quota at most
pub quotas_put : (d : Definitions) (space space' : Directory) (pages slot : ℕ) (s : SeriesDef) (c : ContainerDef) (h : Heading) → AreSound pages d → KeepQuotas d space → at_slot slot d.series ≡ Some s → at_slot s.container d.containers ≡ Some c → heading_of_container d c ≡ Some h
    → ((t : ℕ) → t < 4096 → t ≢ slot → places_of t space' ≡ places_of t space) → container_charge d space' s.container (page_room h.columns) ≤ c.quota → KeepQuotas d space'
quotas_put d space space' pages slot s c h sound kept there at heading others paid k small e g there' heading' = elim (cases_eq k s.container) [
  | inl same ↦
      let cs : c ≡ e = same_some (at_slot k d.containers) c e (ap (λ (n : ℕ). at_slot n d.containers) same ∙ at) there' in
      let hs : h ≡ g = same_some (heading_of_container d e) h g (ap (heading_of_container d) (sym cs) ∙ heading) heading' in
      subst (λ (n : ℕ). container_charge d space' n (page_room g.columns) ≤ e.quota) (sym same)
      (subst (λ (x : Heading). container_charge d space' s.container (page_room x.columns) ≤ e.quota) hs
      (subst (λ (x : ContainerDef). container_charge d space' s.container (page_room h.columns) ≤ x.quota) cs paid))
  | inr other ↦ subst (λ (n : ℕ). n ≤ e.quota) (sym (charge_others d space space' slot s k (page_room g.columns) sound.tables there others other)) (kept k small e g there' heading')
]

-- the series of a layout are charged for their places
none_placed : (l : Layout) (space : Directory) (slot : ℕ) → AreFilled l → ListsPlaces space l → slot < 4096 → heading_at l.definitions slot ≡ None → places_of slot space ≡ []
none_placed l space slot filled lists within none = of_list (places_of slot space) (its_places l space slot lists within) where
  of_list : (ps : List Place) → All (IsPlaceAt slot first_element_page l.element_pages) ps → ps ≡ []
  of_list [] each = refl
  of_list (p ∷ ps) each =
      let one = each 0 p (omega arith) in
      let fill = filled one.number slot one.sheet one.is in
      absurd (none≢some (heading_at l.definitions slot) fill.heading none fill.columns)

heading_or : (o : Option Heading) → (o ≡ None) ⊎ ((h : Heading) × (o ≡ Some h))
heading_or None = inl refl
heading_or (Some h) = inr (h, refl)

charged_within : (l : Layout) (space : Directory) (slot : ℕ) (h : Heading) (regular : Option (ℕ × ℤ)) → IsSound l → ListsPlaces space l → slot < 4096 → heading_at l.definitions slot ≡ Some h → 0 < page_room h.columns
    → shape_at l.definitions slot ≡ shape_of l.definitions regular → length (places_of slot space) ≤ places_charge (page_room h.columns) regular (places_of slot space)
charged_within l space slot h None sound lists within heading room lies = places_charged l space slot h sound lists within heading lies room
charged_within l space slot h (Some regular) sound lists within heading room lies = omega arith

pub layout_charged : (l : Layout) (space : Directory) → IsSound l → AreFilled l → ListsPlaces space l → AreCharged l.definitions space
layout_charged l space sound filled lists slot within = elim (heading_or (heading_at l.definitions slot)) [
  | inl none ↦ inl (none_placed l space slot filled lists within none)
  | inr some ↦
      let d = l.definitions in
      let s = chained (λ (x : SeriesDef). heading_in d x.container) (at_slot slot d.series) some.0 some.1 in
      let c = chained (heading_of_container d) (at_slot s.0.container d.containers) some.0 s.2 in
      let small : s.0.container < 64 = let z = within_table d.containers s.0.container c.0 c.1 in omega (arith, z, sound.definitions.tables.containers.size) in
      let room = room_some d sound.definitions.limits s.0.container c.0 some.0 small c.1 c.2 in
      inr (record {
        series = s.0;
        container = c.0;
        heading = some.0;
        series_there = s.1;
        container_there = c.1;
        columns = c.2;
        within = charged_within l space slot some.0 s.0.regular sound lists within some.1 room (ap (option_and_then (λ (x : SeriesDef). shape_of d x.regular)) s.1);
      })
]

-- without the places of one series, the others are charged as before
cleared_charged : (d : Definitions) (space space' : Directory) (slot : ℕ) → AreCharged d space → places_of slot space' ≡ [] → ((t : ℕ) → t < 4096 → t ≢ slot → places_of t space' ≡ places_of t space) → AreCharged d space'
cleared_charged d space space' slot charged none others t within = elim (cases_eq t slot) [
  | inl same ↦ inl (ap (λ (n : ℕ). places_of n space') same ∙ none)
  | inr other ↦ subst (λ (ps : List Place). (ps ≡ []) ⊎ IsCharged d ps t) (sym (others t within other)) (charged t within)
]

-- the pages that are free and those of a series are as many as it may be charged beside the others
pub quotas_room : (l : Layout) (space : Directory) (free : List ℕ) (count slot more : ℕ) (s : SeriesDef) (c : ContainerDef) (h : Heading) → IsHeldOf l.definitions space count free l → length space.lists ≡ 4096 → slot < 4096
    → at_slot slot l.definitions.series ≡ Some s → at_slot s.container l.definitions.containers ≡ Some c → heading_of_container l.definitions c ≡ Some h
    → container_charge l.definitions space s.container (page_room h.columns) + more ≤ c.quota + places_charge (page_room h.columns) s.regular (places_of slot space) → more ≤ length free + length (places_of slot space)
quotas_room l space free count slot more s c h held size within there at heading paid =
    let d : Definitions = l.definitions in
    let space' : Directory = record { lists = set space.lists slot []; spares = space.spares } in
    let none : places_of slot space' ≡ [] = get_or-set_same space.lists slot [] [] (omega (arith, within, size)) in
    let others : (t : ℕ) → t < 4096 → t ≢ slot → places_of t space' ≡ places_of t space = λ t below other. get_or-set_other space.lists slot t [] [] other in
    let size' : length space'.lists ≡ 4096 = length-set space.lists slot [] ∙ size in
    let both = charge_own d space space' slot s (page_room h.columns) held.rules.definitions.tables there others in
    let free_of : places_charge (page_room h.columns) s.regular (places_of slot space') ≡ 0 = ap (places_charge (page_room h.columns) s.regular) none ∙ nothing_charged (page_room h.columns) s.regular in
    let paid' : container_charge d space' s.container (page_room h.columns) + more ≤ c.quota = omega (arith, both, free_of, paid) in
    let small : container_charge d space' s.container (page_room h.columns) ≤ c.quota = omega (arith, paid') in
    let kept = quotas_put d space space' (length l.element_pages) slot s c h held.rules.definitions (listed_quotas l space held.rules held.places) there at heading others small in
    let charged = cleared_charged d space space' slot (layout_charged l space held.rules held.filled held.places) none others in
    let used = used_more d space' (length l.element_pages) s.container more c h held.rules.definitions kept charged size' at heading paid' in
    let fewer : used_of space' + length (places_of slot space) ≡ used_of space + 0 = sum_by-set length space.lists slot [] [] (omega (arith, within, size)) in
    let all = free_left l space count free held size in
    omega (arith, used, fewer, all)

-- a page has room for at most so many elements
abbrev pub most_in_page : ℕ
most_in_page = 4064

fewer_than_bytes : (w : ℕ) → 0 < w → 4064 / w ≤ 4064
fewer_than_bytes w some = elim (cases_lt 4064 (4064 / w)) [
  | inl above ↦
      let fits : 4065 ≤ 4064 / w = omega (arith, above) in
      let product : 4065 * w ≤ 4064 = (le-div_iff_mul-le {k = w} {x = 4065} {y = 4064} some).0 fits in
      absurd (omega (arith, product, some))
  | inr low ↦ low
]

most_room : (shape : Shape) (columns : List Column) → room_of shape columns ≤ most_in_page
most_room Irregular columns = fewer_than_bytes (width_of columns + 9) (omega arith)
most_room (Regular grid) columns = fewer_than_bytes (width_of columns + 1) (omega arith)

-- so the elements of a series can be counted, and its places
pub quotas_countable : (d : Definitions) (space : Directory) (free : List ℕ) (count : ℕ) → AreKept d space free count → AreCountable space
quotas_countable d space free count kept slot within =
    let each : All (λ (p : Place). p.count ≤ most_in_page) (places_of slot space) = λ k e inside.
    let one = kept.placed.places slot within k e inside in
    let room = one.room in
    omega (arith, room, most_room one.shape one.heading.columns) in
    let total : count_of (places_of slot space) ≤ length (places_of slot space) * most_in_page = sum_by-le (λ (p : Place). p.count) most_in_page (places_of slot space) each in
    let long : length (places_of slot space) ≤ used_of space = get_or-le-sum_by length space.lists slot [] (omega (arith, within, kept.placed.slots)) in
    omega (arith, total, long, kept.placed.all, kept.most)
