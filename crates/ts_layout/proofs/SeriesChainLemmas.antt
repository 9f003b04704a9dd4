-- The pages of a series, in the order of its places, are its sheets: those of an irregular series a chain, those of a regular one pages
-- with cells on its grid.
use Rattle.std.specs.Prelude.{All, IsPermutation}
use Rattle.std.proofs.Common.{◌≡◌, ℕ, ◌+◌, ◌<◌, Some, List, [], ◌∷◌, length, refl, sym, ap, subst, ◌∙◌, ◌||◌, ℤ}
use Rattle.std.proofs.lemmas.List.Elements.{All-head, All-tail}
use Rattle.std.proofs.lemmas.List.Folds.{list_any-append}
use Rattle.std.proofs.lemmas.List.Sorted.{IsPermutation-sym, IsPermutation-trans, IsPermutation-map, All-permutation}
use Rattle.ts_row.specs.Row.{Element, Heading}
use Rattle.ts_row.specs.declared.kind.Column.{Column}
use Rattle.ts_page.specs.Pages.{first_element_page}
use Rattle.ts_space.specs.declared.place.Place.{Place}
use Rattle.ts_space.specs.Place.{AreAbove, IsRising, count_of}
use Rattle.ts_space.specs.Directory.{Directory, places_of}
use Rattle.ts_offset.specs.Grid.{GridPlan}
use Rattle.ts_offset.specs.declared.shape.Shape.{Shape}
use Rattle.ts_offset.specs.declared.shape.Shape.TheVariants.{Irregular, Regular}
use Rattle.ts_regular.specs.Places.{OffsetPage, all_in as all_at}
use Rattle.ts_sheets.specs.Stamped.{stamped}
use Rattle.ts_layout.specs.Meaning.{AreOfFormat, ElementPage, Cells, Layout, HoldsElements, HoldsLayout, IsSound, heading_at, shape_at, elements_of, sheets_of, elements_at}
use Rattle.ts_layout.specs.Sheets.{Sheet, FillSheet, HoldsSheet, BeginInOrder, AreInSequence, AreSheetsOn, elements_in, place_of_sheet}
use Rattle.ts_layout.specs.Surveyed.{ListsPlaces}
use Rattle.ts_layout.specs.Chains.{AreFilled, IsChainOf, IsOnGrid, by_stamp}
use Rattle.ts_layout.proofs.ElementPageLemmas.{within_list}
use Rattle.ts_layout.proofs.OptionLemmas.{one_of}
use Rattle.ts_layout.proofs.MemberLemmas.{Lifted, lifted, rising_once}
use Rattle.ts_layout.proofs.PairLemmas.{Numbered, pairs_from, places_in, sheets_in, places_from_in, sheets_of_in, elements_permuted, pairs_each}
use Rattle.ts_layout.proofs.SheetLemmas.{AreBehind, IsLaidOn, begins_first, begins_rest, chain_elements, length-stamped, lists_in, sequence_order, sequence_rises}
use Rattle.ts_layout.proofs.SeriesSheetLemmas.{sheets_chained, sheets_count, sheets_fill, of_pages}
use Rattle.ts_layout.proofs.GridLemmas.{grid_elements}
use Rattle.ts_layout.proofs.LaidLemmas.{laid_at}
use Rattle.ts_layout.proofs.StampLemmas.{by_stamp_permuted}

-- places of sheets that begin in order rise
behind_places : (at : ℤ) (pairs : List Numbered) → AreBehind at (sheets_in pairs) → AreAbove at (places_in pairs)
behind_places at [] behind = tt
behind_places at (p ∷ pairs) behind = (behind.0, behind_places at pairs behind.1)

rising_places : (pairs : List Numbered) → BeginInOrder (sheets_in pairs) → IsRising (places_in pairs)
rising_places [] order = tt
rising_places (p ∷ pairs) order = (behind_places p.1.0 pairs (begins_first p.1 (sheets_in pairs) order), rising_places pairs (begins_rest p.1 (sheets_in pairs) order))

module _ (shape : Shape) (slot format : ℕ) (columns : List Column) (pages : ℕ → List ℕ) where
  -- a page of the series, by its bytes
  abbrev pub IsHeldAt : Numbered → Type 0
  IsHeldAt p = HoldsSheet shape slot columns p.1 (pages p.0) × AreOfFormat format p.1.1

  pub on_places : (pairs : List Numbered) → All IsHeldAt pairs → AreSheetsOn shape slot columns pages (places_in pairs) (sheets_in pairs)
  on_places [] held = tt
  on_places (p ∷ pairs) held = (record { bytes = (All-head IsHeldAt p pairs held).0; tells = refl }, on_places pairs (All-tail IsHeldAt p pairs held))

  pub formats_all : (pairs : List Numbered) → All IsHeldAt pairs → AreOfFormat format (elements_in (sheets_in pairs))
  formats_all [] held old = refl
  formats_all (p ∷ pairs) held old =
      let here = (All-head IsHeldAt p pairs held).1 old in
      let rest = formats_all pairs (All-tail IsHeldAt p pairs held) old in
      list_any-append (λ (e : Element). e.1.hidden) p.1.1 (elements_in (sheets_in pairs)) ∙ (λ i. here i || rest i)

-- what the pages hold of a series
pub held_pairs : (pages : ℕ → List ℕ) (l : Layout) (slot : ℕ) (h : Heading) (shape : Shape) → heading_at l.definitions slot ≡ Some h → shape_at l.definitions slot ≡ Some shape → HoldsLayout pages l
    → All (IsHeldAt shape slot l.definitions.format h.columns pages) (pairs_from slot first_element_page l.element_pages)
held_pairs pages l slot h shape heading lies holds = pairs_each (IsHeldAt shape slot l.definitions.format h.columns pages) slot first_element_page l.element_pages (λ i sheet is.
    let there : HoldsElements l.definitions (pages (first_element_page + i)) (Cells slot sheet) = subst (HoldsElements l.definitions (pages (first_element_page + i))) is (holds.elements i (within_list l.element_pages i slot sheet is)) in (
      subst (λ (x : Shape). HoldsSheet x slot h.columns sheet (pages (first_element_page + i))) (one_of (shape_at l.definitions slot) there.shape shape there.lies lies)
          (subst (λ (x : Heading). HoldsSheet there.shape slot x.columns sheet (pages (first_element_page + i))) (one_of (heading_at l.definitions slot) there.heading h there.columns heading) there.bytes),
      there.of_format,
    ))

-- the map of sheets in sequence is that of the elements of the series
pub sheets_elements : (shape : Shape) (slot : ℕ) (columns : List Column) (element_pages : List ElementPage) (sheets : List Sheet) → IsLaidOn shape → AreInSequence shape columns sheets → All (FillSheet shape columns) sheets → IsPermutation sheets (sheets_of slot element_pages)
    → elements_at slot element_pages ≡ by_stamp (elements_in sheets)
sheets_elements shape slot columns element_pages sheets laid is fills all =
    by_stamp_permuted (elements_in sheets) (elements_of slot element_pages) (sequence_rises shape columns sheets laid is fills) (elements_permuted slot element_pages sheets all)

-- Sheets are all that a series has: these pages have them as its places tell, in sequence, and its elements are those of the series.
pub record AreSheetsOf (shape : Shape) (slot : ℕ) (columns : List Column) (pages : ℕ → List ℕ) (places : List Place) (l : Layout) (sheets : List Sheet) : Type 0 where
  pub is : AreInSequence shape columns sheets
  pub on : AreSheetsOn shape slot columns pages places sheets
  pub elements : elements_at slot l.element_pages ≡ by_stamp (elements_in sheets)
  pub count : count_of places ≡ length (elements_in sheets)
  pub of_format : AreOfFormat l.definitions.format (elements_in sheets)

pub series_sheets : (l : Layout) (space : Directory) (slot : ℕ) (h : Heading) (shape : Shape) (pages : ℕ → List ℕ) → IsSound l → ListsPlaces space l → slot < 4096 → heading_at l.definitions slot ≡ Some h → shape_at l.definitions slot ≡ Some shape → HoldsLayout pages l
    → (sheets : List Sheet) × AreSheetsOf shape slot h.columns pages (places_of slot space) l sheets
series_sheets l space slot h shape pages sound lists within heading lies holds =
    let inside = sound.sequences slot h shape heading lies in
    let pairs : List Numbered = pairs_from slot first_element_page l.element_pages in
    let moved : IsPermutation (sheets_in pairs) inside.sheets =
    subst (λ (x : List Sheet). IsPermutation x inside.sheets) (sheets_of_in slot first_element_page l.element_pages) (IsPermutation-sym inside.sheets (sheets_of slot l.element_pages) inside.all) in
    let order : Lifted (λ (p : Numbered). p.1) pairs inside.sheets = lifted (λ (p : Numbered). p.1) pairs inside.sheets moved in
    let held = All-permutation (IsHeldAt shape slot l.definitions.format h.columns pages) pairs order.list order.moved (held_pairs pages l slot h shape heading lies holds) in
    let there : AreSheetsOn shape slot h.columns pages (places_in order.list) inside.sheets =
    subst (AreSheetsOn shape slot h.columns pages (places_in order.list)) order.is (on_places shape slot l.definitions.format h.columns pages order.list held) in
    let fills = sheets_fill shape slot h.columns pages (places_in order.list) inside.sheets there in
    let begins : BeginInOrder (sheets_in order.list) = subst BeginInOrder (sym order.is) (sequence_order shape h.columns inside.sheets inside.is fills) in
    let listed = lists slot within in
    let all : IsPermutation (places_of slot space) (places_in order.list) =
    IsPermutation-trans (places_of slot space) (places_in pairs) (places_in order.list) (subst (IsPermutation (places_of slot space)) (places_from_in slot first_element_page l.element_pages) listed.all)
    (IsPermutation-map (λ (p : Numbered). place_of_sheet p.0 p.1) pairs order.list order.moved) in
    let same : places_of slot space ≡ places_in order.list = rising_once (places_of slot space) (places_in order.list) listed.rising (rising_places order.list begins) all in
    let on : AreSheetsOn shape slot h.columns pages (places_of slot space) inside.sheets = subst (λ (x : List Place). AreSheetsOn shape slot h.columns pages x inside.sheets) (sym same) there in
    let laid = laid_at l.definitions (length l.element_pages) slot shape sound.definitions lies in (
      inside.sheets,
      record {
        is = inside.is;
        on = on;
        elements = sheets_elements shape slot h.columns l.element_pages inside.sheets laid inside.is fills inside.all;
        count = sheets_count shape slot h.columns pages (places_of slot space) inside.sheets on;
        of_format = subst (AreOfFormat l.definitions.format) (ap elements_in order.is) (formats_all shape slot l.definitions.format h.columns pages order.list held);
      },
    )

-- a chain, where the series is irregular
pub series_chain : (l : Layout) (space : Directory) (slot : ℕ) (h : Heading) (pages : ℕ → List ℕ) → IsSound l → AreFilled l → ListsPlaces space l → slot < 4096 → heading_at l.definitions slot ≡ Some h → shape_at l.definitions slot ≡ Some Irregular → HoldsLayout pages l
    → (chain : List (List Element)) × IsChainOf slot h.columns pages (places_of slot space) l chain
series_chain l space slot h pages sound filled lists within heading lies holds =
    let have = series_sheets l space slot h Irregular pages sound lists within heading lies holds in
    let same = chain_elements have.0 in (
      lists_in have.0,
      record {
        is = have.1.is;
        on = sheets_chained slot h.columns pages (places_of slot space) have.0 have.1.on;
        elements = have.1.elements ∙ ap by_stamp same;
        count = have.1.count ∙ ap (λ (es : List Element). length es) same;
        of_format = subst (AreOfFormat l.definitions.format) same have.1.of_format;
      },
    )

-- pages with cells on its grid, where it is regular
pub series_on_grid : (l : Layout) (space : Directory) (slot : ℕ) (h : Heading) (grid : GridPlan) (pages : ℕ → List ℕ) → IsSound l → AreFilled l → ListsPlaces space l → slot < 4096 → heading_at l.definitions slot ≡ Some h → shape_at l.definitions slot ≡ Some (Regular grid) → HoldsLayout pages l
    → (ps : List OffsetPage) × IsOnGrid grid slot h.columns pages (places_of slot space) l ps
series_on_grid l space slot h grid pages sound filled lists within heading lies holds =
    let have = series_sheets l space slot h (Regular grid) pages sound lists within heading lies holds in
    let own = of_pages grid slot h.columns pages (places_of slot space) have.0 have.1.on in
    let same : elements_in have.0 ≡ stamped grid (all_at own.list) = ap elements_in own.is ∙ grid_elements grid own.list in (
      own.list,
      record {
        on = own.on;
        starts = own.starts;
        elements = have.1.elements ∙ ap by_stamp same;
        count = have.1.count ∙ ap (λ (es : List Element). length es) same ∙ length-stamped grid (all_at own.list) own.starts;
        of_format = subst (AreOfFormat l.definitions.format) same have.1.of_format;
      },
    )

pub series_rises : (l : Layout) (space : Directory) (slot : ℕ) → ListsPlaces space l → slot < 4096 → IsRising (places_of slot space)
series_rises l space slot lists within = (lists slot within).rising
