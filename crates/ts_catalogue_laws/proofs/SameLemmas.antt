-- Where what a catalogue's series, containers and calendars refer to stays, they are what they were.
use Rattle.std.proofs.Common.{◌≡◌, ℕ, ℤ, ◌+◌, ◌<◌, true, cond, Option, Some, None, option_map, option_and_then, unwrap_or, List, [], refl, sym, ap, subst, ◌∙◌}
use Rattle.std.specs.Option.{IsSome}
use Rattle.std.specs.Str.{bytes_eq}
use Rattle.std.specs.Ordering.{eq_by_cmp}
use Rattle.std.specs.FinMap.{entries, get, remove}
use Rattle.ts_row.specs.Row.{Heading}
use Rattle.ts_row.specs.declared.kind.Column.{Column}
use Rattle.ts_calendar.specs.Calendars.{CalendarPlan}
use Rattle.ts_calendar.specs.declared.text.CalendarText.{CalendarText}
use Rattle.ts_offset.specs.declared.shape.Shape.{Shape}
use Rattle.ts_offset.specs.declared.shape.Shape.TheVariants as shapes
use Rattle.ts_model.specs.Catalogue.{Named, name_cmp, Elements, Container, SeriesKind, Irregular, Regular, Series, Catalogue, calendar_of, shape_of, columns_of, quota_of, with_named}
use Rattle.ts_model.specs.Charge.{page_elements, elements_charge, series_charge, container_charge}
use Rattle.ts_model.specs.declared.kind.Kind.TheVariants as kinds
use Rattle.ts_model.proofs.OrderLemmas.{total, same_name, eq_ties, ties-refl, ties-same}
use Rattle.ts_catalogue_laws.specs.Catalogue.{IsContainer, IsSeries, IsCatalogue}
use Rattle.ts_catalogue_laws.proofs.MapLemmas.{total_of, filter_total, totals_same, set_total, had_total, new_total}
use Rattle.ts_catalogue_laws.proofs.ChargeLemmas.{has_room}

-- what is there
pub there_is : {X : Type 0} (o : Option X) → IsSome o → (x : X) × (o ≡ Some x)
there_is None some = absurd (let never : ⊥ = cc in never)
there_is (Some x) some = (x, refl)

-- the same by other lookups
pub series_again : (format : ℕ) (container container' : Option Container) (stands stands' : Option Shape) (columns columns' : List Column) (key : List ℕ) (s : Series)
    → container' ≡ container → stands' ≡ stands → columns' ≡ columns → IsSeries format container stands columns key s → IsSeries format container' stands' columns' key s
series_again format container container' stands stands' columns columns' key s c p q is =
    subst (λ (x : Option Container). IsSeries format x stands' columns' key s) (sym c)
    (subst (λ (x : Option Shape). IsSeries format container x columns' key s) (sym p)
    (subst (λ (x : List Column). IsSeries format container stands x key s) (sym q) is))

pub container_again : (row_type row_type' : Option Heading) (charge charge' : ℕ) (name : List ℕ) (c : Container) → row_type' ≡ row_type → charge' ≡ charge → IsContainer row_type charge name c → IsContainer row_type' charge' name c
container_again row_type row_type' charge charge' name c r e is =
    subst (λ (x : Option Heading). IsContainer x charge' name c) (sym r) (subst (λ (x : ℕ). IsContainer row_type x name c) (sym e) is)

-- what is charged to a container, by its name
abbrev pub weight : Catalogue → List ℕ → Series → ℕ
weight cat name s = cond (bytes_eq s.container name) (series_charge cat s) 0

pub charge_total : (cat : Catalogue) (name : List ℕ) → container_charge name cat ≡ total_of (weight cat name) (entries cat.series)
charge_total cat name = filter_total (λ (s : Series). bytes_eq s.container name) (series_charge cat) (entries cat.series)

pub bytes_same : (a b : List ℕ) → a ≡ b → bytes_eq a b ≡ true
bytes_same a b same = eq_ties a b ∙ ap (λ (x : List ℕ). eq_by_cmp name_cmp x b) same ∙ ties-refl b

pub same_bytes : (a b : List ℕ) → bytes_eq a b ≡ true → a ≡ b
same_bytes a b is = ties-same a b (sym (eq_ties a b) ∙ is)

-- what series, containers and calendars refer to stays
pub record Same (cat after : Catalogue) : Type 0 where
  pub rows : (name : List ℕ) (c : Container) → get cat.containers name ≡ Some c → get after.row_types c.row_type ≡ get cat.row_types c.row_type
  pub plans : (name : List ℕ) (text : CalendarText) → get cat.calendars name ≡ Some text → calendar_of after text ≡ calendar_of cat text
  pub containers : (key : List ℕ) (s : Series) → get cat.series key ≡ Some s → get after.containers s.container ≡ get cat.containers s.container
  pub calendars : (key : List ℕ) (s : Series) (calendar : List ℕ) (origin : ℤ) → get cat.series key ≡ Some s → s.kind ≡ Regular calendar origin → get after.calendars calendar ≡ get cat.calendars calendar

-- the calendar of a series is there, and stands for one
module _ (cat : Catalogue) (good : IsCatalogue cat) where
  calendar_there : (calendar : List ℕ) (origin : ℤ) (shape : Shape) → shape_of cat (Regular calendar origin) ≡ Some shape → (text : CalendarText) × (get cat.calendars calendar ≡ Some text)
  calendar_there calendar origin shape is = by (get cat.calendars calendar) is where
    by : (o : Option CalendarText) → option_map (λ (plan : CalendarPlan). shapes.Regular (record { calendar = plan; origin = origin })) (option_and_then (calendar_of cat) o) ≡ Some shape → (text : CalendarText) × (o ≡ Some text)
    by None is = absurd (let never : ⊥ = cc in never)
    by (Some text) is = (text, refl)

  -- the columns of a series are those of a row type that is there
  pub record HasColumns (s : Series) : Type 0 where
    pub container : Container
    pub listed : get cat.containers s.container ≡ Some container
    pub heading : Heading
    pub there : get cat.row_types container.row_type ≡ Some heading
    pub are : columns_of cat s ≡ heading.columns

  pub has_columns : (key : List ℕ) (s : Series) → get cat.series key ≡ Some s → HasColumns s
  has_columns key s listed =
      let c = there_is (get cat.containers s.container) (good.series key s listed).container_there in
      let h = there_is (get cat.row_types c.0.row_type) (good.containers s.container c.0 c.1).row_type_there in
      record {
        container = c.0;
        listed = c.1;
        heading = h.0;
        there = h.1;
        are = ap (λ (o : Option Container). unwrap_or (option_map (λ (x : Heading). x.columns) (option_and_then (λ (x : Container). get cat.row_types x.row_type) o)) []) c.1
            ∙ ap (λ (o : Option Heading). unwrap_or (option_map (λ (x : Heading). x.columns) o) []) h.1;
      }

  pub columns_roomy : (key : List ℕ) (s : Series) → get cat.series key ≡ Some s → 0 < page_elements (columns_of cat s)
  columns_roomy key s listed =
      let h = has_columns key s listed in
      subst (λ (cs : List Column). 0 < page_elements cs) (sym h.are) (has_room h.heading.stamp h.heading.columns (good.row_types h.container.row_type h.heading h.there).rules)

  pub quota_there : (key : List ℕ) (s : Series) → get cat.series key ≡ Some s → (c : Container) × (get cat.containers s.container ≡ Some c) × (quota_of cat s ≡ c.quota)
  quota_there key s listed =
      let c = there_is (get cat.containers s.container) (good.series key s listed).container_there in
      (c.0, c.1, ap (λ (o : Option Container). unwrap_or (option_map (λ (x : Container). x.quota) o) 0) c.1)

  -- what a series is charged
  pub charge_shaped : (key : List ℕ) (s : Series) (es : Elements) → (listed : get cat.series key ≡ Some s) → series_charge cat (record s { elements = es }) ≡ elements_charge (columns_of cat s) (good.series key s listed).shape es
  charge_shaped key s es listed = ap (λ (o : Option Shape). unwrap_or (option_map (λ (x : Shape). elements_charge (columns_of cat s) x es) o) 0) (good.series key s listed).shape_there

module _ (cat after : Catalogue) (good : IsCatalogue cat) (same : Same cat after) where
  pub columns_stay : (key : List ℕ) (s : Series) → get cat.series key ≡ Some s → columns_of after s ≡ columns_of cat s
  columns_stay key s listed =
      let h = has_columns cat good key s listed in
      let c : get after.containers s.container ≡ Some h.container = same.containers key s listed ∙ h.listed in
      let r : get after.row_types h.container.row_type ≡ Some h.heading = same.rows s.container h.container h.listed ∙ h.there in
      ap (λ (o : Option Container). unwrap_or (option_map (λ (x : Heading). x.columns) (option_and_then (λ (x : Container). get after.row_types x.row_type) o)) []) c
      ∙ ap (λ (o : Option Heading). unwrap_or (option_map (λ (x : Heading). x.columns) o) []) r ∙ sym h.are

  kind_stays : (key : List ℕ) (s : Series) (kind : SeriesKind) (shape : Shape) → get cat.series key ≡ Some s → s.kind ≡ kind → shape_of cat kind ≡ Some shape → shape_of after kind ≡ shape_of cat kind
  kind_stays key s Irregular shape listed is lies = refl
  kind_stays key s (Regular calendar origin) shape listed is lies =
      let text = calendar_there cat good calendar origin shape lies in
      let now : get after.calendars calendar ≡ Some text.0 = same.calendars key s calendar origin listed is ∙ text.1 in
      let grid : Option CalendarPlan → Option Shape = option_map (λ (plan : CalendarPlan). shapes.Regular (record { calendar = plan; origin = origin })) in
      ap (λ (o : Option CalendarText). grid (option_and_then (calendar_of after) o)) now
      ∙ ap grid (same.plans calendar text.0 text.1) ∙ sym (ap (λ (o : Option CalendarText). grid (option_and_then (calendar_of cat) o)) text.1)

  pub shape_stays : (key : List ℕ) (s : Series) → get cat.series key ≡ Some s → shape_of after s.kind ≡ shape_of cat s.kind
  shape_stays key s listed = let x = good.series key s listed in kind_stays key s s.kind x.shape listed refl x.shape_there

  pub series_stays : (key : List ℕ) (s : Series) → get cat.series key ≡ Some s → IsSeries cat.format (get after.containers s.container) (shape_of after s.kind) (columns_of after s) key s
  series_stays key s listed =
      series_again cat.format (get cat.containers s.container) (get after.containers s.container) (shape_of cat s.kind) (shape_of after s.kind) (columns_of cat s) (columns_of after s) key s
      (same.containers key s listed) (shape_stays key s listed) (columns_stay key s listed) (good.series key s listed)

  pub charge_stays : (key : List ℕ) (s : Series) → get cat.series key ≡ Some s → series_charge after s ≡ series_charge cat s
  charge_stays key s listed =
      ap (λ (o : Option Shape). unwrap_or (option_map (λ (x : Shape). elements_charge (columns_of after s) x s.elements) o) 0) (shape_stays key s listed)
      ∙ ap (λ (cs : List Column). unwrap_or (option_map (λ (x : Shape). elements_charge cs x s.elements) (shape_of cat s.kind)) 0) (columns_stay key s listed)

  -- where the series are the same
  pub charges_stay : after.series ≡ cat.series → (name : List ℕ) → container_charge name after ≡ container_charge name cat
  charges_stay series name =
      charge_total after name ∙ ap (λ (m : Named Series). total_of (weight after name) (entries m)) series
      ∙ totals_same total same_name (weight after name) (weight cat name) cat.series (λ key s listed. ap (λ (n : ℕ). cond (bytes_eq s.container name) n 0) (charge_stays key s listed))
      ∙ sym (charge_total cat name)

  pub container_stays : after.series ≡ cat.series → (name : List ℕ) (c : Container) → get cat.containers name ≡ Some c → IsContainer (get after.row_types c.row_type) (container_charge name after) name c
  container_stays series name c listed =
      container_again (get cat.row_types c.row_type) (get after.row_types c.row_type) (container_charge name cat) (container_charge name after) name c
      (same.rows name c listed) (charges_stay series name) (good.containers name c listed)

-- what a container is charged where a series gets other elements, comes or goes
module _ (cat : Catalogue) (key name : List ℕ) where
  pub others : ℕ
  others = total_of (weight cat name) (entries (remove cat.series key))

  pub charge_with : (s : Series) → container_charge name (with_named kinds.Series key s cat) ≡ weight cat name s + others
  unfolding others
  charge_with s = charge_total (with_named kinds.Series key s cat) name ∙ set_total total same_name (weight cat name) cat.series key s

  pub charge_had : (s : Series) → get cat.series key ≡ Some s → container_charge name cat ≡ weight cat name s + others
  unfolding others
  charge_had s listed = charge_total cat name ∙ had_total total same_name (weight cat name) cat.series key s listed

  pub charge_new : get cat.series key ≡ None → container_charge name cat ≡ others
  unfolding others
  charge_new none = charge_total cat name ∙ sym (new_total total same_name (weight cat name) cat.series key none)

  pub charge_without : container_charge name (record cat { series = remove cat.series key }) ≡ others
  unfolding others
  charge_without = charge_total (record cat { series = remove cat.series key }) name
