-- What the routines that only read memory say.
use Rattle.std.proofs.Common.{◌≡◌, ℕ, Option, Some, List, [], ◌++◌, map, length, ap, sym, ◌∙◌}
use Rattle.std.specs.Option.{option_map, option_and_then, unwrap_or}
use Rattle.std.specs.List.{flat_map}
use Rattle.std.specs.FinMap.{len}
use Rattle.ts_row.specs.Row.{Heading}
use Rattle.ts_space.specs.Place.{count_of}
use Rattle.ts_space.specs.Directory.{Directory, places_of}
use Rattle.ts_cells.specs.IrregularPage.{page_room}
use Rattle.ts_model.specs.declared.kind.Kind.TheVariants as kinds
use Rattle.ts_model.specs.Catalogue.{Container, Series, is_regular, series_in}
use Rattle.ts_model.specs.Charge.{container_charge as charge_by_name}
use Rattle.ts_model.specs.Definitions.{Definitions, RowTypeDef, ContainerDef, at_slot}
use Rattle.ts_layout.specs.Meaning.{Layout, quota_in, heading_in, heading_of_container, catalogue_of}
use Rattle.ts_layout.specs.Charges.{AreCountable, charge_in, container_charge}
use Rattle.ts_layout.proofs.CallerLemmas.{container_found, row_type_of_container, len_counted, quotas_countable, charge_pages, charge_named}
use Rattle.ts_answer.specs.Answer.{Answered}
use Rattle.ts_answer.specs.Reading.{IsKept, SaysOnly}
use Rattle.ts_answer.specs.Reply.{count_line, counts_line, series_line, series_text}
use Rattle.ts_answer.specs.Slots.{Stands}
use Rattle.ts_answer.specs.View.{IsHeldOf}
use Rattle.ts_tell.specs.Listed.{listed_in}
use Rattle.ts_tell.proofs.InOrderLemmas.{listed_in_order}

-- the elements of each series can be counted
pub kept_countable : (d : Definitions) (space : Directory) → IsKept d space → AreCountable space
kept_countable d space kept = quotas_countable d space kept.1 kept.0 kept.2

-- the same reply, of the catalogue that stays
pub says : (l : Layout) (out text : List ℕ) → out ≡ text → SaysOnly out l tt (text, catalogue_of l)
says l out text same = ap (λ (t : List ℕ). let a : Answered = (t, catalogue_of l) in a) (sym same)

-- by what is in memory of a layout
module _ (d : Definitions) (space : Directory) (count : ℕ) (free : List ℕ) (l : Layout) (held : IsHeldOf d space count free l) (old out : List ℕ) (empty : old ≡ []) (slot : ℕ) where
  -- the number of elements
  pub count_said : (key : List ℕ) (series : Series) (n : ℕ) → Stands kinds.Series key l slot series → n ≡ count_of (places_of slot space) → out ≡ old ++ count_line n → SaysOnly out l tt (count_line (len series.elements), catalogue_of l)
  count_said key series n there counts said =
      let elements = ap (λ (s : Series). len s.elements) there.is.2 ∙ len_counted l space slot held.rules held.filled held.places there.at.within in
      says l out (count_line (len series.elements)) (said ∙ (λ i. empty i ++ count_line ((counts ∙ sym elements) i)))

  charged : (c : ContainerDef) → at_slot slot l.definitions.containers ≡ Some c → charge_in l.definitions space slot ≡ charge_by_name c.name (catalogue_of l)
  charged c there =
      let r = row_type_of_container l slot c held.rules there in
      let heading : heading_of_container l.definitions c ≡ Some r.0.heading = ap (option_map (λ (x : RowTypeDef). x.heading)) r.1.there in
      let inside : heading_in l.definitions slot ≡ Some r.0.heading = ap (option_and_then (heading_of_container l.definitions)) there ∙ heading in
      ap (λ (o : Option Heading). unwrap_or (option_map (λ (h : Heading). container_charge l.definitions space slot (page_room h.columns)) o) 0) inside
      ∙ charge_pages l space slot (page_room r.0.heading.columns) held.rules.definitions.tables held.places
      ∙ sym (charge_named l slot c r.0.heading held.rules held.filled there heading)

  -- what a container is charged, and its quota
  pub usage_said : (name : List ℕ) (container : Container) (charge quota : ℕ) → Stands kinds.Container name l slot container → charge ≡ charge_in d space slot → quota ≡ quota_in (at_slot slot d.containers) → out ≡ old ++ counts_line charge quota
      → SaysOnly out l tt (counts_line (charge_by_name name (catalogue_of l)) container.quota, catalogue_of l)
  usage_said name container charge quota there charges quotas said =
      let found = container_found l name slot held.rules there.at.is in
      let charge_is = charges ∙ ap (λ (x : Definitions). charge_in x space slot) held.definitions ∙ charged found.0 found.1.there ∙ ap (λ (n : List ℕ). charge_by_name n (catalogue_of l)) found.1.its_name in
      let quota_is = quotas ∙ ap (λ (x : Definitions). quota_in (at_slot slot x.containers)) held.definitions ∙ ap quota_in there.is.1 ∙ sym (ap (λ (c : Container). c.quota) there.is.2) in
      says l out (counts_line (charge_by_name name (catalogue_of l)) container.quota) (said ∙ (λ i. empty i ++ counts_line (charge_is i) (quota_is i)))

  -- the series of a container
  pub list_said : (name : List ℕ) (container : Container) (middle : List ℕ) (n : ℕ) → Stands kinds.Container name l slot container → middle ≡ old ++ flat_map series_line (listed_in d space slot) → n ≡ length (listed_in d space slot) → out ≡ middle ++ count_line n
      → SaysOnly out l tt (series_text (map (λ e. (e.0, is_regular e.1.kind, len e.1.elements)) (series_in name (catalogue_of l))), catalogue_of l)
  unfolding series_text
  list_said name container middle n there lines counts said =
      let ss = listed_in d space slot in
      let listed = ap (λ (x : Definitions). listed_in x space slot) held.definitions ∙ listed_in_order l space name slot held.rules held.filled held.places there.at.is in
      let first : middle ≡ flat_map series_line ss = lines ∙ ap (λ (t : List ℕ). t ++ flat_map series_line ss) empty in
      says l out (series_text (map (λ e. (e.0, is_regular e.1.kind, len e.1.elements)) (series_in name (catalogue_of l)))) (said ∙ (λ i. first i ++ count_line (counts i)) ∙ ap series_text listed)
