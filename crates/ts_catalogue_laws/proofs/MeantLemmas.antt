-- What a layout is laid out from means a catalogue.
use Rattle.std.proofs.Common.{◌≡◌, ℕ, zero, suc, ℤ, ◌+◌, ◌<◌, ◌≤◌, ◌==◌, Bool, true, false, cond, not, Option, Some, None, List, [], ◌∷◌, length, slice_get, refl, sym, ap, subst, ◌∙◌, arith, inl, inr, IsTrue, int_lt}
use Rattle.std.specs.Option.{is_some, IsSome, option_map, option_and_then, unwrap_or}
use Rattle.std.proofs.lemmas.Bool.Decides.{nat_tests}
use Rattle.std.specs.Ordering.{int_cmp}
use Rattle.std.specs.Cmp.{int_cmp_total}
use Rattle.std.specs.FinMap.{get, get-from_entries, len, int_cmp-IsAntisymmetric}
use Rattle.ts_base.specs.Moment.{IsStamp}
use Rattle.ts_base.specs.Name.{is_key}
use Rattle.ts_row.specs.declared.kind.Column.{Column}
use Rattle.ts_row.specs.Row.{Heading, Row, fits, fits as fits_row, Element}
use Rattle.ts_pattern.specs.Patterns.{Plan}
use Rattle.ts_calendar.specs.declared.text.CalendarText.{CalendarText}
use Rattle.ts_calendar.proofs.StampLemmas.{int_lt-false}
use Rattle.ts_offset.specs.declared.shape.Shape.{Shape}
use Rattle.ts_offset.specs.declared.shape.Shape.TheVariants.{Irregular, Regular}
use Rattle.ts_offset.specs.Grid.{GridPlan, stamp_of, IsOnStart, on_starts}
use Rattle.ts_offset.proofs.ListedLemmas.{start-listed}
use Rattle.ts_offset.proofs.StartLemmas.{on-line}
use Rattle.ts_cells.specs.IrregularPage.{IsElement, page_room, AreElements}
use Rattle.ts_regular.specs.RegularPage.{Cell, OffsetElement, elements_from, AreCells}
use Rattle.ts_sheets.specs.Stamped.{stamped_one}
use Rattle.ts_model.specs.declared.kind.Kind.{Kind}
use Rattle.ts_model.specs.declared.kind.Kind.TheVariants as kinds
use Rattle.ts_model.specs.declared.def.Def.{Def}
use Rattle.ts_model.specs.Catalogue.{Container, Series, Catalogue, calendar_of, shape_of as shape_by_name, columns_of, In, named}
use Rattle.ts_model.specs.Charge.{container_charge}
use Rattle.ts_model.specs.Format.{KeepsFormat}
use Rattle.ts_model.specs.Definitions.{Definitions, RowTypeDef, CalendarDef, SeriesDef, KindDef, to_def, limit, slots, table_of, at_slot, vacant_slot}
use Rattle.ts_layout.specs.Meaning.{IsDef, IsSlotOf, ElementPage, Free, Cells, Layout, element_page, elements_on, elements_of, elements_at, heading_at, heading_of_container, grid_in, shape_of, shape_at, HoldsLayout, IsSound, Means, value_of, charge_of_container, series_of, container_of, text_of, catalogue_of}
use Rattle.ts_layout.specs.Sheets.{Sheet, FillSheet}
use Rattle.ts_layout.specs.Chains.{AreFilled, IsFilledFor}
use Rattle.ts_layout.specs.Lookup.{IsNamedAt}
use Rattle.ts_layout.specs.Laws.{NamesStandInSlots, ReferencesAreNames, SlotsAreCounted}
use Rattle.ts_layout.specs.ChainLaws.{RegularElementsAreOnStarts, HeldPagesAreFilled}
use Rattle.ts_layout.specs.ChargeLaws.{ChargesFollowPlaces}
use Rattle.ts_layout.specs.FormatLaws.{CataloguesKeepFormats}
use Rattle.ts_layout.proofs.CallerLemmas.{laid_at}
use Rattle.ts_answer_laws.specs.ReadingLaws.{CanStand}
use Rattle.ts_catalogue_laws.specs.Catalogue.{IsRowType, IsPattern, IsCalendar, IsContainer, IsSeries, IsCatalogue, HasOrigin}
use Rattle.ts_catalogue_laws.specs.Laws.{VolumesMeanCatalogues}
use Rattle.ts_catalogue_laws.proofs.ListLemmas.{Among, one_of, mapped, place_filtered, among_joined, among_mapped, found_among, within_table}
use Rattle.ts_catalogue_laws.proofs.OnceLemmas.{once, rising}

-- what is known of layouts
pub record Known : Type 0 where
  pub names : NamesStandInSlots
  pub references : ReferencesAreNames
  pub counted : SlotsAreCounted
  pub charges : ChargesFollowPlaces
  pub starts : RegularElementsAreOnStarts
  pub filled : HeldPagesAreFilled
  pub formats : CataloguesKeepFormats

-- a row of a cell, found among the elements of cells
cell_fits : (columns : List Column) (offset : ℕ) (cells : List Cell) (e : OffsetElement) → AreCells columns cells → Among e (elements_from offset cells) → IsTrue (fits columns e.1)
cell_fits columns offset [] e each there = absurd there
cell_fits columns offset (None ∷ cells) e each there = cell_fits columns (offset + 1) cells e each.1 there
cell_fits columns offset (Some row ∷ cells) e each (inl is) = ap (λ (f : OffsetElement). fits columns f.1) is ∙ each.0
cell_fits columns offset (Some row ∷ cells) e each (inr there) = cell_fits columns (offset + 1) cells e each.1 there

element_fits : (columns : List Column) (es : List Element) (e : Element) → AreElements columns es → Among e es → IsElement columns e
element_fits columns [] e each there = absurd there
element_fits columns (f ∷ es) e each (inl is) = subst (λ (x : Element). IsElement columns x) (sym is) each.0
element_fits columns (f ∷ es) e each (inr there) = element_fits columns es e each.1 there

sheet_row : (shape : Shape) (columns : List Column) (sheet : Sheet) (e : Element) → FillSheet shape columns sheet → Among e sheet.1 → IsTrue (fits columns e.1)
sheet_row Irregular columns sheet e fill there = (element_fits columns sheet.1 e fill.0.elements.each there).row
sheet_row (Regular grid) columns sheet e fill there =
    let at = among_mapped (stamped_one grid) (elements_from fill.base fill.cells) e (subst (Among e) fill.on.elements there) in
    let of = mapped (λ (start : ℤ). (start, at.0.1)) (stamp_of grid at.0.0) e at.2 in
    ap (λ (x : Element). fits columns x.1) (sym of.2) ∙ cell_fits columns fill.base fill.cells at.0 fill.fill.each at.1

sheet_stamp : (columns : List Column) (sheet : Sheet) (e : Element) → FillSheet Irregular columns sheet → Among e sheet.1 → IsStamp e.0
sheet_stamp columns sheet e fill there = (element_fits columns sheet.1 e fill.0.elements.each there).stamp

-- the start of an offset is an on start from the origin on
offset_stands : (grid : GridPlan) (n : ℕ) (stamp : ℤ) → stamp_of grid n ≡ Some stamp → CanStand (Regular grid) stamp
offset_stands grid n stamp is =
    let at = place_filtered (λ (x : ℤ). not (int_lt x grid.origin)) (on_starts grid.calendar) n stamp is in
    (start-listed grid.calendar stamp at.0 at.1, int_lt-false stamp grid.origin (turned (int_lt stamp grid.origin) at.2)) where
      turned : (b : Bool) → not b ≡ true → b ≡ false
      turned true is = absurd (let never : ⊥ = cc in never)
      turned false is = refl

some_is : {X : Type 0} (o : Option X) (x : X) → o ≡ Some x → IsSome o
some_is o x is = ap is_some is

origin_of : (d : Definitions) (regular : Option (ℕ × ℤ)) (shape : Shape) → shape_of d regular ≡ Some shape
    → ((at : ℕ) (origin : ℤ) → regular ≡ Some (at, origin) → (c : CalendarDef) × (at_slot at d.calendars ≡ Some c) × IsOnStart c.calendar origin) → HasOrigin shape
origin_of d None shape is on = let same : Irregular ≡ shape = cc in subst HasOrigin same tt
origin_of d (Some regular) shape is on =
    let g = mapped Regular (grid_in d regular) shape is in
    let c = mapped (λ (x : CalendarDef). record { calendar = x.calendar; origin = regular.1 }) (at_slot regular.0 d.calendars) g.0 g.1 in
    let found = on regular.0 regular.1 refl in
    let same : found.0 ≡ c.0 = one_of (at_slot regular.0 d.calendars) found.0 c.0 found.1 c.1 in
    subst HasOrigin g.2 (subst (λ (x : GridPlan). IsOnStart x.calendar x.origin) c.2 (subst (λ (x : CalendarDef). IsOnStart x.calendar regular.1) same found.2))

size_of : (kind : Kind) (l : Layout) → IsSound l → length (table_of kind l.definitions) ≡ limit kind
size_of kinds.RowType l sound = sound.definitions.tables.row_types.size
size_of kinds.Pattern l sound = sound.definitions.tables.patterns.size
size_of kinds.Calendar l sound = sound.definitions.tables.calendars.size
size_of kinds.Container l sound = sound.definitions.tables.containers.size
size_of kinds.Series l sound = sound.definitions.tables.series.size

module _ (known : Known) (pages : ℕ → List ℕ) (l : Layout) (holds : HoldsLayout pages l) (sound : IsSound l) (formats : KeepsFormat (catalogue_of l)) where
  abbrev d : Definitions
  d = l.definitions

  abbrev cat : Catalogue
  cat = catalogue_of l

  filled : AreFilled l
  filled = known.filled pages l holds

  -- what stands under a name keeps the limits of its kind
  record Listed (kind : Kind) (name : List ℕ) (value : In kind) : Type 0 where
    slot : ℕ
    a : KindDef kind
    at : IsNamedAt kind l slot name a
    is : value ≡ value_of kind l slot a
    fits : IsDef d.format (to_def kind a)

  listed : (kind : Kind) (name : List ℕ) (value : In kind) → get (named kind cat) name ≡ Some value → Listed kind name value
  listed kind name value is =
      let found = known.names.listed kind l name value sound is in
      let low : found.0 < limit kind = let within = within_table found.0 (table_of kind d) found.1 found.2.there in subst (λ (n : ℕ). found.0 < n) (size_of kind l sound) within in
      let P : Option Def → Type 0 = IsSlotOf d.format kind in
      record { slot = found.0; a = found.1; at = found.2; is = found.3; fits = (subst P found.2.def (sound.definitions.limits.each kind found.0 low)).1 }

  row_type : (name : List ℕ) (h : Heading) → get cat.row_types name ≡ Some h → IsRowType d.format name h
  row_type name h is =
      let x = listed kinds.RowType name h is in
      let fits = x.fits in
      subst (λ (h : Heading). IsRowType d.format name h) (sym x.is)
      (subst (λ (n : List ℕ). IsRowType d.format n x.a.heading) x.at.its_name
      (record { word = fits.name; stamp_word = fits.stamp; column_words = fits.columns; rules = fits.rules; digits = fits.of_format }))

  pattern : (name : List ℕ) (p : Plan) → get cat.patterns name ≡ Some p → IsPattern name p
  pattern name p is =
      let x = listed kinds.Pattern name p is in
      let fits = x.fits in
      subst (λ (p : Plan). IsPattern name p) (sym x.is) (subst (λ (n : List ℕ). IsPattern n x.a.pattern) x.at.its_name (record { word = fits.name; runs = fits.runs }))

  calendar : (name : List ℕ) (text : CalendarText) → get cat.calendars name ≡ Some text → IsCalendar (calendar_of cat text) name
  calendar name text is =
      let x = listed kinds.Calendar name text is in
      let fits = x.fits in
      subst (λ (t : CalendarText). IsCalendar (calendar_of cat t) name) (sym x.is)
      (subst (λ (n : List ℕ). IsCalendar (calendar_of cat (text_of d x.a)) n) x.at.its_name
      (record {
        word = fits.name;
        plan = x.a.calendar;
        stands = known.references.calendar l x.slot x.a sound x.at.there;
        start = fits.start;
        patt_start = fits.patt_start;
        runs = fits.runs;
        valid = sound.definitions.valid x.slot x.a x.at.there;
      }))

  container : (name : List ℕ) (c : Container) → get cat.containers name ≡ Some c → IsContainer (get cat.row_types c.row_type) (container_charge name cat) name c
  container name c is =
      let x = listed kinds.Container name c is in
      let fits = x.fits in
      let r = known.references.row_type l x.slot x.a sound x.at.there in
      let heading : heading_of_container d x.a ≡ Some r.0.heading = ap (option_map (λ (r : RowTypeDef). r.heading)) r.1.there in
      let charge : container_charge x.a.name cat ≡ charge_of_container l x.slot (page_room r.0.heading.columns) = known.charges.name l x.slot x.a r.0.heading sound filled x.at.there heading in
      subst (λ (c : Container). IsContainer (get cat.row_types c.row_type) (container_charge name cat) name c) (sym x.is)
      (subst (λ (n : List ℕ). IsContainer (get cat.row_types (container_of d x.a).row_type) (container_charge n cat) n (container_of d x.a)) x.at.its_name
      (record {
        word = fits.name;
        row_type_there = some_is _ _ r.1.listed;
        some = fits.some;
        most = fits.most;
        charge = subst (λ (n : ℕ). n ≤ x.a.quota) (sym charge) (sound.charges x.slot x.a r.0.heading x.at.there heading);
      }))

  -- an element of a series stands on a page of it
  record OnPage (slot : ℕ) (stamp : ℤ) (row : Row) : Type 0 where
    sheet : Sheet
    page : IsFilledFor d slot sheet
    there : Among (stamp, row) sheet.1

  page_at : (n : ℕ) (pages : List ElementPage) (page : ElementPage) → slice_get pages n ≡ Some page → element_page n pages ≡ page
  page_at n [] page is = absurd (let never : ⊥ = cc in never)
  page_at zero (p ∷ pages) page is = cc
  page_at (suc n) (p ∷ pages) page is = page_at n pages page is

  on_one : (slot n : ℕ) (stamp : ℤ) (row : Row) (page : ElementPage) → element_page n l.element_pages ≡ page → Among (stamp, row) (elements_on slot page) → OnPage slot stamp row
  on_one slot n stamp row Free is there = absurd there
  on_one slot n stamp row (Cells s sheet) is there =
      elim (s == slot) as (λ (b : Bool). (s == slot) ≡ b → Among (stamp, row) (cond b sheet.1 []) → OnPage slot stamp row) [
        | true ↦ λ own at.
            let same : s ≡ slot = grind (arith, nat_tests) in
            record { sheet = sheet; page = subst (λ (i : ℕ). IsFilledFor d i sheet) same (filled n s sheet is); there = at }
        | false ↦ λ other at. absurd at
      ] refl there

  on_page : (slot : ℕ) (stamp : ℤ) (row : Row) → get (elements_at slot l.element_pages) stamp ≡ Some row → OnPage slot stamp row
  on_page slot stamp row is =
      let among = found_among int_cmp int_cmp-IsAntisymmetric stamp row (elements_of slot l.element_pages) (sym (get-from_entries int_cmp_total (elements_of slot l.element_pages) stamp) ∙ is) in
      let at = among_joined (elements_on slot) l.element_pages (stamp, row) among in
      on_one slot at.0 stamp row at.1 (page_at at.0 l.element_pages at.1 at.2) at.3

  -- what holds of the elements of a series that stands in a slot, by its shape and its columns
  row_of : (slot : ℕ) (shape : Shape) (stamp : ℤ) (row : Row) → shape_at d slot ≡ Some shape → get (elements_at slot l.element_pages) stamp ≡ Some row → (h : Heading) × (heading_at d slot ≡ Some h) × IsTrue (fits h.columns row)
  row_of slot shape stamp row lies is =
      let on = on_page slot stamp row is in
      (on.page.heading, on.page.columns, sheet_row on.page.shape on.page.heading.columns on.sheet (stamp, row) on.page.fill on.there)

  stand_of : (slot : ℕ) (shape : Shape) (stamp : ℤ) (row : Row) → shape_at d slot ≡ Some shape → get (elements_at slot l.element_pages) stamp ≡ Some row → IsStamp stamp × CanStand shape stamp
  stand_of slot Irregular stamp row lies is =
      let on = on_page slot stamp row is in
      let fill = subst (λ (x : Shape). FillSheet x on.page.heading.columns on.sheet) (one_of (shape_at d slot) on.page.shape Irregular on.page.lies lies) on.page.fill in
      (sheet_stamp on.page.heading.columns on.sheet (stamp, row) fill on.there, tt)
  stand_of slot (Regular grid) stamp row lies is =
      let at = known.starts l slot grid filled lies stamp row is in
      let stands = offset_stands grid at.0 stamp at.1 in
      ((on-line grid.calendar stands.0.interval stamp (laid_at d (length l.element_pages) slot (Regular grid) sound.definitions lies) stands.0.start).1, stands)

  series : (key : List ℕ) (s : Series) → get cat.series key ≡ Some s → IsSeries d.format (get cat.containers s.container) (shape_by_name cat s.kind) (columns_of cat s) key s
  series key s is =
      let x = listed kinds.Series key s is in
      let fits = x.fits in
      let own = series_of l x.slot x.a in
      let c = known.references.container l x.slot x.a sound x.at.there in
      let shape = known.references.shape l x.slot x.a sound x.at.there in
      let in_slot : shape_of d x.a.regular ≡ Some shape.0 = sym (ap (option_and_then (λ (s : SeriesDef). shape_of d s.regular)) x.at.there) ∙ shape.1 in
      let columns : (h : Heading) → heading_at d x.slot ≡ Some h → h.columns ≡ columns_of cat own =
      λ h there. sym (ap (λ (o : Option Heading). unwrap_or (option_map (λ (h : Heading). h.columns) o) []) (known.references.columns l x.slot x.a sound x.at.there ∙ there)) in
      subst (λ (s : Series). IsSeries d.format (get cat.containers s.container) (shape_by_name cat s.kind) (columns_of cat s) key s) (sym x.is)
      (record {
        text = subst (λ (k : List ℕ). IsTrue (is_key k)) x.at.its_name fits.key;
        container_there = some_is _ _ c.1.listed;
        shape = shape.0;
        shape_there = shape.2;
        origin = origin_of d x.a.regular shape.0 in_slot (λ at origin regular.
            let g = known.references.grid l x.slot at origin x.a sound x.at.there regular in
            (g.1, g.3.there, g.4));
        rising = rising own.elements;
        stamps = λ stamp row there. (stand_of x.slot shape.0 stamp row shape.1 there).0;
        rows = λ stamp row there.
            let r = row_of x.slot shape.0 stamp row shape.1 there in
            subst (λ (cs : List Column). IsTrue (fits_row cs row)) (columns r.0 r.1) r.2;
        starts = λ stamp row there. (stand_of x.slot shape.0 stamp row shape.1 there).1;
        visible = λ old stamp row there. formats.visible old key own (is ∙ ap Some x.is) stamp row there;
      })

  few : (kind : Kind) → len (named kind cat) ≤ limit kind
  few kind = by (vacant_slot (slots kind d)) refl where
    by : (o : Option ℕ) → vacant_slot (slots kind d) ≡ o → len (named kind cat) ≤ limit kind
    by None none = let full = known.counted.full kind l sound none in omega (arith, full)
    by (Some slot) vacant = let fewer = known.counted.fewer kind l slot sound vacant in omega (arith, fewer)

  is_catalogue : IsCatalogue cat
  is_catalogue = record {
    format = formats.format;
    some_pages = sound.some;
    most_pages = sound.most;
    few = few;
    once = once cat;
    row_types = row_type;
    patterns = pattern;
    calendars = calendar;
    containers = container;
    quotas = subst (λ (n : ℕ). n ≤ length l.element_pages) (known.counted.quotas l sound) sound.definitions.quotas;
    series = series;
  }

pages_mean : Known → (count : ℕ) (pages : ℕ → List ℕ) (cat : Catalogue) → Means count pages cat → IsCatalogue cat
pages_mean known count pages cat means =
    let l = means.0 in
    let formats = subst KeepsFormat means.2 (known.formats count pages cat means) in
    subst IsCatalogue (sym means.2) (is_catalogue known pages l means.1.bytes means.1.rules formats)

pub volumes_mean : Known → VolumesMeanCatalogues
volumes_mean known = record {
  bytes = λ bytes cat means. pages_mean known _ _ cat means.pages;
  pages = pages_mean known;
}
