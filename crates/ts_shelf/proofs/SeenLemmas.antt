-- The series that is seen: its columns, its shape, its elements, and what readings say of it.
use Rattle.std.proofs.Common.{◌≡◌, ℕ, ◌<◌, Bool, IsTrue, Option, Some, None, IsSome, Ok, List, length, refl, ap, sym, ◌∙◌, subst}
use Rattle.std.specs.Option.{option_map, option_and_then}
use Rattle.std.specs.FinMap.{get, entries}
use Rattle.ts_command.specs.declared.command.Command.{Command}
use Rattle.ts_page.specs.Pages.{Contents}
use Rattle.ts_row.specs.declared.kind.Column.{Column}
use Rattle.ts_row.specs.Row.{Heading, Element, seen}
use Rattle.ts_space.specs.declared.place.Place.{Place}
use Rattle.ts_space.specs.Directory.{Directory, places_of}
use Rattle.ts_cells.specs.IrregularPage.{AreRising}
use Rattle.ts_irregular.specs.Call.{Reads}
use Rattle.ts_sheets.specs.Stamped.{all_in, stamped}
use Rattle.ts_regular.specs.Places.{all_in as all_at}
use Rattle.ts_offset.specs.declared.shape.Shape.{Shape}
use Rattle.ts_offset.specs.declared.shape.Shape.TheVariants.{Irregular, Regular}
use Rattle.ts_clip.specs.Series.{HaveElements}
use Rattle.ts_offset.specs.Shape.{IsLaidOut}
use Rattle.ts_model.specs.Catalogue.{Series, columns_of, shape_of}
use Rattle.ts_model.specs.declared.kind.Kind.TheVariants as kinds
use Rattle.ts_model.specs.Definitions.{Definitions, RowTypeDef, ContainerDef, SeriesDef, at_slot}
use Rattle.ts_layout.specs.Meaning.{AreOfFormat, Layout, IsSound, HoldsLayout, heading_of_container, heading_in, heading_at, shape_at, elements_at, series_of, catalogue_of, shape_of as shape_in}
use Rattle.ts_layout.specs.Surveyed.{ListsPlaces}
use Rattle.ts_layout.specs.Chains.{by_stamp, AreFilled}
use Rattle.ts_layout.proofs.CallerLemmas.{one_of, series_found, container_of_series, row_type_of_container, shape_found}
use Rattle.ts_answer.specs.Answer.{Answered, wanted, outcome}
use Rattle.ts_answer.specs.Slots.{IsSlotNamed, Stands}
use Rattle.ts_answer.specs.Tried.{IsTried}
use Rattle.ts_answer.specs.View.{View, IsViewOf, Shows}
use Rattle.ts_answer.specs.CarriedOut.{ReadOut}
use Rattle.ts_answer.proofs.CallerLemmas.{wanted-there}
use Rattle.ts_shelf.specs.Shelf.{IsSeries, IsShelf, IsShelfIn}
use Rattle.ts_shelf.proofs.LawLemmas.{charges, on_pages, entries_rising}
use Rattle.ts_shelf.proofs.OrderLemmas.{in_order}

-- the series of a key in its slot, with its container and their columns
pub record SeriesIn (l : Layout) (key : List ℕ) (slot : ℕ) : Type 0 where
  pub s : SeriesDef
  pub c : ContainerDef
  pub h : Heading
  pub is : IsSeries slot s c h l.definitions
  pub columns : heading_at l.definitions slot ≡ Some h
  pub shape : Shape
  pub lies : shape_at l.definitions slot ≡ Some shape
  pub kind : shape_of (catalogue_of l) (series_of l slot s).kind ≡ Some shape
  pub named : s.key ≡ key
  pub container : (series_of l slot s).container ≡ c.name
  pub listed : get (catalogue_of l).series key ≡ Some (series_of l slot s)

-- the columns by the slots
pub heading_there : (d : Definitions) (slot : ℕ) (s : SeriesDef) (c : ContainerDef) (h : Heading) → IsSeries slot s c h d → heading_at d slot ≡ Some h
heading_there d slot s c h is =
    ap (option_and_then (λ (x : SeriesDef). heading_in d x.container)) is.there
    ∙ ap (option_and_then (heading_of_container d)) is.container ∙ is.heading

pub series_in_slot : (l : Layout) (key : List ℕ) (slot : ℕ) → IsSound l → IsSlotNamed kinds.Series slot key l.definitions → SeriesIn l key slot
series_in_slot l key slot rules named =
    let found = series_found l key slot rules named.is in
    let s = found.0 in
    let holder = container_of_series l slot s rules found.1.there in
    let c = holder.0 in
    let row_type = row_type_of_container l s.container c rules holder.1.there in
    let h = row_type.0.heading in
    let shape = shape_found l slot s rules found.1.there in
    let is : IsSeries slot s c h l.definitions = record {
      there = found.1.there;
      container = holder.1.there;
      heading = ap (option_map (λ (r : RowTypeDef). r.heading)) row_type.1.there;
    } in
    record {
      s = s;
      c = c;
      h = h;
      is = is;
      columns = heading_there l.definitions slot s c h is;
      shape = shape.0;
      lies = shape.1;
      kind = shape.2;
      named = found.1.its_name;
      container = sym holder.1.its_name;
      listed = found.1.listed;
    }

-- none isn't some
pub not_some : {A : Type 0} (o : Option A) → None ≡ o → IsSome o → ⊥
not_some None none some = absurd (cc)
not_some (Some a) none some = cc

-- where the elements of a series can stand, by its definition
pub shape_there : (d : Definitions) (slot : ℕ) (s : SeriesDef) (shape : Shape) → at_slot slot d.series ≡ Some s → shape_at d slot ≡ Some shape → shape_in d s.regular ≡ Some shape
shape_there d slot s shape there lies = sym (ap (option_and_then (λ (x : SeriesDef). shape_in d x.regular)) there) ∙ lies

module _ (x : View) (l : Layout) (kept : IsViewOf x l) (slot : ℕ) where
  pub series_seen : (key : List ℕ) → IsSlotNamed kinds.Series slot key x.definitions → SeriesIn l key slot
  series_seen key named = series_in_slot l key slot kept.rules (subst (λ (d : Definitions). IsSlotNamed kinds.Series slot key d) kept.definitions named)

  -- its columns and its shape are those of the definitions that are kept
  pub columns_same : (key : List ℕ) (h : Heading) (on : SeriesIn l key slot) → heading_at x.definitions slot ≡ Some h → on.h ≡ h
  columns_same key h on columns = one_of (heading_at l.definitions slot) on.h h on.columns (ap (λ (d : Definitions). heading_at d slot) (sym kept.definitions) ∙ columns)

  pub shape_same : (key : List ℕ) (shape : Shape) (on : SeriesIn l key slot) → shape_at x.definitions slot ≡ Some shape → on.shape ≡ shape
  shape_same key shape on lies = one_of (shape_at l.definitions slot) on.shape shape on.lies (ap (λ (d : Definitions). shape_at d slot) (sym kept.definitions) ∙ lies)

  pub columns_in : (h : Heading) → heading_at x.definitions slot ≡ Some h → heading_at l.definitions slot ≡ Some h
  columns_in h columns = ap (λ (d : Definitions). heading_at d slot) (sym kept.definitions) ∙ columns

  pub shape_in_layout : (shape : Shape) → shape_at x.definitions slot ≡ Some shape → shape_at l.definitions slot ≡ Some shape
  shape_in_layout shape lies = ap (λ (d : Definitions). shape_at d slot) (sym kept.definitions) ∙ lies

-- the series of a key with its columns and its shape, as it is wanted
pub shelf_tried : (x : View) (l : Layout) (kept : IsViewOf x l) (key : List ℕ) (slot : ℕ) (h : Heading) (shape : Shape) → heading_at x.definitions slot ≡ Some h → shape_at x.definitions slot ≡ Some shape
    → IsTried (Ok slot) (wanted key (catalogue_of l).series) (Stands kinds.Series key l) → (series : Series) × (wanted key (catalogue_of l).series ≡ Ok series) × IsShelfIn l key shape slot h series
shelf_tried x l kept key slot h shape columns lies tried =
    let series = tried.ok.0 in
    let stands = tried.ok.2 in
    let on = series_in_slot l key slot kept.rules stands.at in
    let same : stands.is.0 ≡ on.s = one_of (at_slot slot l.definitions.series) stands.is.0 on.s stands.is.1 on.is.there in
    let is : series ≡ series_of l slot on.s = stands.is.2 ∙ ap (series_of l slot) same in (
      series,
      tried.ok.1,
      record {
        stands = stands;
        columns = ap (columns_of (catalogue_of l)) is ∙ charges.columns l (length l.element_pages) slot on.s on.c on.h kept.rules.definitions on.is.container on.is.heading
            ∙ ap (λ (y : Heading). y.columns) (columns_same x l kept slot key h on columns);
        lies = ap (λ (s : Series). shape_of (catalogue_of l) s.kind) is ∙ on.kind ∙ ap Some (shape_same x l kept slot key shape on lies);
      },
    )

-- where it stands in a slot by the definitions that are kept
pub shelf_seen : (x : View) (l : Layout) (kept : IsViewOf x l) (key : List ℕ) (shape : Shape) (slot : ℕ) (h : Heading) → IsShelf shape slot h key x.definitions
    → (series : Series) × (wanted key (catalogue_of l).series ≡ Ok series) × IsShelfIn l key shape slot h series
shelf_seen x l kept key shape slot h shelf =
    let on = series_seen x l kept slot key shelf.named in
    let series = series_of l slot on.s in
    let at = subst (λ (d : Definitions). IsSlotNamed kinds.Series slot key d) kept.definitions shelf.named in
    shelf_tried x l kept key slot h shape shelf.columns shelf.lies
    (record { ok = (series, wanted-there key (catalogue_of l).series series on.listed, record { at = at; listed = on.listed; is = (on.s, on.is.there, refl) }); err = tt })

-- the elements of a series on its pages, and in the layout
pub record HasSeen (shape : Shape) (slot : ℕ) (columns : List Column) (pages : ℕ → List ℕ) (places : List Place) (l : Layout) (es : List Element) : Type 0 where
  pub have : HaveElements shape slot columns pages places es
  pub elements : elements_at slot l.element_pages ≡ by_stamp es
  pub of_format : AreOfFormat l.definitions.format es
  pub order : AreRising es

pub entries_in : (shape : Shape) (slot : ℕ) (columns : List Column) (pages : ℕ → List ℕ) (places : List Place) (l : Layout) (es : List Element) → HasSeen shape slot columns pages places l es → entries (elements_at slot l.element_pages) ≡ es
entries_in shape slot columns pages places l es has = ap entries has.elements ∙ entries_rising es has.order

-- the pages of a layout that hold it have some
pub pages_have : (shape : Shape) → IsLaidOut shape → (l : Layout) (space : Directory) (slot : ℕ) (h : Heading) (pages : ℕ → List ℕ) → IsSound l → AreFilled l → ListsPlaces space l → slot < 4096 → heading_at l.definitions slot ≡ Some h
    → shape_at l.definitions slot ≡ Some shape → HoldsLayout pages l → (es : List Element) × HasSeen shape slot h.columns pages (places_of slot space) l es
pages_have Irregular laid l space slot h pages rules filled lists within columns lies holds =
    let seen = on_pages.chain l space slot h pages rules filled lists within columns lies holds in
    let of = seen.1 in
    let have : HaveElements Irregular slot h.columns pages (places_of slot space) (all_in seen.0) = record { chain = seen.0; is = of.is; on = of.on; all = refl } in (
      all_in seen.0,
      record {
        have = have;
        elements = of.elements;
        of_format = of.of_format;
        order = in_order Irregular laid slot h.columns pages (places_of slot space) (all_in seen.0) (on_pages.rising l space slot lists within) have;
      },
    )
pages_have (Regular grid) laid l space slot h pages rules filled lists within columns lies holds =
    let seen = on_pages.grid l space slot h grid pages rules filled lists within columns lies holds in
    let of = seen.1 in
    let es = stamped grid (all_at seen.0) in
    let have : HaveElements (Regular grid) slot h.columns pages (places_of slot space) es = record { cells = seen.0; on = of.on; starts = of.starts; all = refl } in (
      es,
      record {
        have = have;
        elements = of.elements;
        of_format = of.of_format;
        order = in_order (Regular grid) laid slot h.columns pages (places_of slot space) es (on_pages.rising l space slot lists within) have;
      },
    )

-- pages were read, and this is said
pub read_out : {T : Type 0} (tells : Bool) (command : Command) (x : View) (c : Contents) (t : T) (text out : List ℕ) → out ≡ text → Reads tells (Ok t) x.pages c
    → (IsTrue tells → (l : Layout) → Shows tells x l → outcome (Ok command) (catalogue_of l) ≡ Ok (text, catalogue_of l)) → ReadOut tells command (Ok tt) out x c
read_out tells command x c t text out is reads says = record {
  said = λ told l shows. says told l shows ∙ ap (λ (t : List ℕ). let a : Answered = (t, catalogue_of l) in Ok a) (sym is);
  stopped = tt;
  stays = record { free = reads.free; pages = reads.pages };
  count = reads.call.count;
  bytes = reads.change_bytes;
  no_fault = reads.call.no_fault (λ failed. cc);
}

-- the elements of a series that is seen
module _ (tells : Bool) (x : View) (l : Layout) (shape : Shape) (laid : IsLaidOut shape) (slot : ℕ) (h : Heading) (told : IsTrue tells) (shows : Shows tells x l) (columns : heading_at x.definitions slot ≡ Some h) (lies : shape_at x.definitions slot ≡ Some shape)
    (within : slot < 4096) where
  pub elements_seen : (es : List Element) × HasSeen shape slot h.columns x.pages.page (places_of slot x.space) l es
  elements_seen =
      let kept = shows.kept in
      pages_have shape laid l x.space slot h x.pages.page kept.rules kept.filled kept.places within (columns_in x l kept slot h columns) (shape_in_layout x l kept slot shape lies) (shows.holds told)
