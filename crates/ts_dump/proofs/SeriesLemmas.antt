-- A series of a layout that was found: its columns, its shape and its pages.
use Rattle.std.proofs.Common.{◌≡◌, ℕ, ◌<◌, Option, Some, None, List, [], length, refl, sym, ap, subst, ◌∙◌}
use Rattle.std.specs.Option.{option_map}
use Rattle.std.specs.List.{flat_map}
use Rattle.std.specs.FinMap.{entries}
use Rattle.ts_row.specs.Row.{Heading, Element}
use Rattle.ts_journal.specs.Journal.{pages}
use Rattle.ts_space.specs.Directory.{Directory, places_of}
use Rattle.ts_offset.specs.declared.shape.Shape.{Shape}
use Rattle.ts_offset.specs.Shape.{IsLaidOut}
use Rattle.ts_model.specs.declared.def.Def.{Def}
use Rattle.ts_model.specs.declared.kind.Kind.TheVariants as kinds
use Rattle.ts_model.specs.Catalogue.{columns_of}
use Rattle.ts_model.specs.Definitions.{Definitions, RowTypeDef, SeriesDef, at_slot, name_of, of_series}
use Rattle.ts_layout.specs.Meaning.{Layout, IsSound, def_at, heading_at, shape_at, series_of, elements_at, catalogue_of}
use Rattle.ts_layout.proofs.CallerLemmas.{one_of, own, at_slot-map, container_of_series, row_type_of_container, shape_found}
use Rattle.ts_shelf.specs.Shelf.{IsSeries}
use Rattle.ts_shelf.proofs.LawLemmas.{charges}
use Rattle.ts_shelf.proofs.SeenLemmas.{heading_there, pages_have, entries_in}
use Rattle.ts_dump_texts.specs.OfCatalogue.{texts_of_element}
use Rattle.ts_dump.specs.Elements.{texts_of_elements, series_if, series_texts}
use Rattle.ts_dump.specs.Held.{IsLayoutOf, HaveParts}
use Rattle.ts_dump.proofs.PartLemmas.{parts_of}

-- the columns and the shape of a series
record Known (l : Layout) (slot : ℕ) (s : SeriesDef) : Type 0 where
  h : Heading
  heading : heading_at l.definitions slot ≡ Some h
  columns : columns_of (catalogue_of l) (series_of l slot s) ≡ h.columns
  shape : Shape
  lies : shape_at l.definitions slot ≡ Some shape

known : (l : Layout) (slot : ℕ) (s : SeriesDef) → IsSound l → at_slot slot l.definitions.series ≡ Some s → Known l slot s
known l slot s rules there =
    let holder = container_of_series l slot s rules there in
    let c = holder.0 in
    let row_type = row_type_of_container l s.container c rules holder.1.there in
    let h = row_type.0.heading in
    let shape = shape_found l slot s rules there in
    let is : IsSeries slot s c h l.definitions = record {
      there = there;
      container = holder.1.there;
      heading = ap (option_map (λ (r : RowTypeDef). r.heading)) row_type.1.there;
    } in
    record {
      h = h;
      heading = heading_there l.definitions slot s c h is;
      columns = charges.columns l (length l.element_pages) slot s c h rules.definitions is.container is.heading;
      shape = shape.0;
      lies = shape.1;
    }

module _ (d : Definitions) (space : Directory) (bytes : List ℕ) (l : Layout) (lay : IsLayoutOf d space bytes l) (slot : ℕ) (s : SeriesDef) (there : at_slot slot d.series ≡ Some s) where
  in_layout : at_slot slot l.definitions.series ≡ Some s
  in_layout = subst (λ (x : Definitions). at_slot slot x.series ≡ Some s) lay.definitions there

  its : Known l slot s
  its = known l slot s lay.rules in_layout

  -- it has columns and a shape
  pub no_heading : None ≡ heading_at d slot → ⊥
  no_heading none = let is = none ∙ ap (λ (x : Definitions). heading_at x slot) lay.definitions ∙ its.heading in cc

  pub no_shape : None ≡ shape_at d slot → ⊥
  no_shape none = let is = none ∙ ap (λ (x : Definitions). shape_at x slot) lay.definitions ∙ its.lies in cc

  -- its pages have its elements, place by place, and their texts are those of the series
  pub series_parts : (key : List ℕ) (h : Heading) (shape : Shape) → s.key ≡ key → slot < 4096 → heading_at d slot ≡ Some h → shape_at d slot ≡ Some shape → IsLaidOut shape
      → (parts : List (List Element)) × HaveParts shape slot h.columns (pages bytes) (places_of slot space) parts
      × (flat_map (texts_of_elements key h.columns) parts ≡ series_texts l slot)
  series_parts key h shape named within heading lies laid =
      let heading_in = ap (λ (x : Definitions). heading_at x slot) (sym lay.definitions) ∙ heading in
      let lies_in = ap (λ (x : Definitions). shape_at x slot) (sym lay.definitions) ∙ lies in
      let found = pages_have shape laid l space slot h (pages bytes) lay.rules lay.filled lay.places within heading_in lies_in lay.holds in
      let es = found.0 in
      let has = found.1 in
      let parts = parts_of slot key h.columns (pages bytes) shape (places_of slot space) es has.have in
      let same : its.h ≡ h = one_of (heading_at l.definitions slot) its.h h its.heading heading_in in
      let columns : h.columns ≡ columns_of (catalogue_of l) (series_of l slot s) = sym (its.columns ∙ ap (λ (x : Heading). x.columns) same) in
      let listed : es ≡ entries (elements_at slot l.element_pages) = sym (entries_in shape slot h.columns (pages bytes) (places_of slot space) l es has) in (
        parts.parts,
        parts.have,
        parts.texts
            ∙ (λ i. flat_map (texts_of_element (sym named i) (columns i)) (listed i))
            ∙ ap (series_if l slot) (sym in_layout),
      )

-- what stands in a slot of series has its key
pub key_there : (d : Definitions) (slot : ℕ) (def : Def) → def_at kinds.Series slot d ≡ Some def → (s : SeriesDef) × (at_slot slot d.series ≡ Some s) × (s.key ≡ name_of def)
key_there d slot def is =
    let found = own of_series slot d.series def is in
    (found.0, found.1, ap name_of found.2)

-- nothing stands there
nothing_in : (l : Layout) (slot : ℕ) (o : Option SeriesDef) → None ≡ option_map of_series o → [] ≡ series_if l slot o
nothing_in l slot None none = refl
nothing_in l slot (Some s) none = absurd (cc)

pub empty_slot : (d : Definitions) (space : Directory) (bytes : List ℕ) (l : Layout) → IsLayoutOf d space bytes l → (slot : ℕ) → None ≡ def_at kinds.Series slot d → [] ≡ series_texts l slot
empty_slot d space bytes l lay slot none =
    nothing_in l slot (at_slot slot l.definitions.series)
    (none ∙ ap (λ (x : Definitions). def_at kinds.Series slot x) lay.definitions ∙ at_slot-map of_series slot l.definitions.series)
