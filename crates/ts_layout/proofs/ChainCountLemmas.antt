-- How many elements and places the pages of a series have.
use Rattle.std.specs.Prelude.{All}
use Rattle.std.proofs.Common.{◌≡◌, ℕ, suc, ◌+◌, ◌<◌, ◌≤◌, ◌==◌, Bool, true, false, if◌then◌else◌, Some, List, [], ◌∷◌, ◌++◌, length, refl, sym, ap, subst, ◌∙◌, arith, inl, inr}
use Rattle.std.proofs.lemmas.Bool.{cases_eq}
use Rattle.std.proofs.lemmas.Bool.Decides.{nat_tests}
use Rattle.std.proofs.lemmas.List.{length-map}
use Rattle.std.proofs.lemmas.List.Elements.{All-nil, All-cons, All-append, All-weaker}
use Rattle.std.proofs.lemmas.List.Sorted.{All-permutation, IsPermutation-sym, length_permutation}
use Rattle.std.specs.Ordering.{int_cmp}
use Rattle.std.specs.FinMap.{len, len-empty}
use Rattle.ts_row.specs.Row.{Row, Element, Heading}
use Rattle.ts_space.specs.declared.place.Place.{Place}
use Rattle.ts_space.specs.Place.{count_of}
use Rattle.ts_space.specs.Charge.{irregular_charge, irregular_places_charge}
use Rattle.ts_space.specs.Directory.{Directory, places_of}
use Rattle.ts_offset.specs.declared.shape.Shape.TheVariants.{Irregular}
use Rattle.ts_cells.specs.IrregularPage.{page_room}
use Rattle.ts_page.specs.Pages.{first_element_page}
use Rattle.ts_sheets.specs.Stamped.{all_in}
use Rattle.ts_sheets.proofs.OrderLemmas.{sized_pages}
use Rattle.ts_sheets.proofs.DenseLemmas.{within_charge}
use Rattle.ts_layout.specs.Sheets.{Sheet, elements_in, place_of_sheet}
use Rattle.ts_layout.specs.Meaning.{ElementPage, Free, Cells, Layout, element_page, elements_on, elements_of, sheets_of, elements_at, heading_at, shape_at, IsSound}
use Rattle.ts_layout.specs.Surveyed.{places_on, places_from, ListsPlaces}
use Rattle.ts_layout.specs.Chains.{by_stamp, AreFilled}
use Rattle.ts_layout.proofs.OptionLemmas.{none≢some, there_or}
use Rattle.ts_layout.proofs.PairLemmas.{elements_permuted}
use Rattle.ts_layout.proofs.SequenceLemmas.{its_count}
use Rattle.ts_layout.proofs.ShapeLemmas.{lists_counted}
use Rattle.ts_layout.proofs.SheetLemmas.{lists_in, chain_elements}

-- the places count the elements
pub counted : (l : Layout) (space : Directory) (slot : ℕ) → ListsPlaces space l → slot < 4096 → count_of (places_of slot space) ≡ length (elements_of slot l.element_pages)
counted l space slot lists within = (lists_counted l space slot lists within).elements

-- each place is that of a page with a sheet of the series
pub record IsPlaceAt (slot first : ℕ) (pages : List ElementPage) (p : Place) : Type 0 where
  pub number : ℕ
  pub sheet : Sheet
  pub page : p.page ≡ first + number
  pub within : number < length pages
  pub is : element_page number pages ≡ Cells slot sheet
  pub tells : p ≡ place_of_sheet p.page sheet

further_on : (slot first : ℕ) (e : ElementPage) (pages : List ElementPage) (p : Place) → IsPlaceAt slot (suc first) pages p → IsPlaceAt slot first (e ∷ pages) p
further_on slot first e pages p at = record {
  number = suc at.number;
  sheet = at.sheet;
  page = omega (arith, at.page);
  within = omega (arith, at.within);
  is = at.is;
  tells = at.tells;
}

of_sheet : (slot first s : ℕ) (sheet : Sheet) (pages : List ElementPage) → s ≡ slot → All (IsPlaceAt slot first (Cells s sheet ∷ pages)) (place_of_sheet first sheet ∷ [])
of_sheet slot first s sheet pages same =
    let P : Place → Type 0 = IsPlaceAt slot first (Cells s sheet ∷ pages) in
    let at : first ≡ first + 0 = omega arith in
    All-cons P (place_of_sheet first sheet) [] (record { number = 0; sheet = sheet; page = at; within = omega arith; is = ap (λ (n : ℕ). Cells n sheet) same; tells = refl }) (All-nil P)

on_page : (slot first : ℕ) (e : ElementPage) (pages : List ElementPage) → All (IsPlaceAt slot first (e ∷ pages)) (places_on slot first e)
on_page slot first Free pages = All-nil (IsPlaceAt slot first (Free ∷ pages))
on_page slot first (Cells s sheet) pages = elim (cases_eq s slot) [
  | inl same ↦
      let t : (s == slot) ≡ true = grind (arith, nat_tests) in
      subst (λ (b : Bool). All (IsPlaceAt slot first (Cells s sheet ∷ pages)) (if b then place_of_sheet first sheet ∷ [] else [])) (sym t) (of_sheet slot first s sheet pages same)
  | inr other ↦
      let f : (s == slot) ≡ false = grind (arith, nat_tests) in
      subst (λ (b : Bool). All (IsPlaceAt slot first (Cells s sheet ∷ pages)) (if b then place_of_sheet first sheet ∷ [] else [])) (sym f) (All-nil (IsPlaceAt slot first (Cells s sheet ∷ pages)))
]

pub places_each : (slot first : ℕ) (pages : List ElementPage) → All (IsPlaceAt slot first pages) (places_from slot first pages)
places_each slot first [] = All-nil (IsPlaceAt slot first [])
places_each slot first (e ∷ pages) =
    All-append (IsPlaceAt slot first (e ∷ pages)) (places_on slot first e) (places_from slot (suc first) pages) (on_page slot first e pages)
    (All-weaker (IsPlaceAt slot (suc first) pages) (IsPlaceAt slot first (e ∷ pages)) (λ p at. further_on slot first e pages p at) (places_from slot (suc first) pages) (places_each slot (suc first) pages))

pub its_places : (l : Layout) (space : Directory) (slot : ℕ) → ListsPlaces space l → slot < 4096 → All (IsPlaceAt slot first_element_page l.element_pages) (places_of slot space)
its_places l space slot lists within =
    let all = (lists slot within).all in
    All-permutation (IsPlaceAt slot first_element_page l.element_pages) (places_from slot first_element_page l.element_pages) (places_of slot space) (IsPermutation-sym (places_of slot space) (places_from slot first_element_page l.element_pages) all) (places_each slot first_element_page l.element_pages)

-- so a series has at most as many places as it is charged
pub places_charged : (l : Layout) (space : Directory) (slot : ℕ) (h : Heading) → IsSound l → ListsPlaces space l → slot < 4096 → heading_at l.definitions slot ≡ Some h → shape_at l.definitions slot ≡ Some Irregular → 0 < page_room h.columns
    → length (places_of slot space) ≤ irregular_places_charge (page_room h.columns) (places_of slot space)
places_charged l space slot h sound lists within heading lies some =
    let ordered = sound.sequences slot h Irregular heading lies in
    let pages = l.element_pages in
    let chain : List (List Element) = lists_in ordered.sheets in
    let bound = within_charge (page_room h.columns) chain some (sized_pages h.columns chain ordered.is.pages) ordered.is.dense in
    let size = length-map ordered.sheets (λ (sheet : Sheet). sheet.1) in
    let many = length_permutation ordered.sheets (sheets_of slot pages) ordered.all in
    let all = length_permutation (elements_in ordered.sheets) (elements_of slot pages) (elements_permuted slot pages ordered.sheets ordered.all) in
    let most = (lists_counted l space slot lists within).pages in
    let count : length (all_in chain) ≡ count_of (places_of slot space) = ap (λ (es : List Element). length es) (sym (chain_elements ordered.sheets)) ∙ sym all ∙ sym (counted l space slot lists within) in
    let charge : irregular_charge (page_room h.columns) (length (all_in chain)) ≡ irregular_places_charge (page_room h.columns) (places_of slot space) = ap (irregular_charge (page_room h.columns)) count in
    omega (arith, bound, size, many, most, charge)

-- how many elements a series has by its stamps
none_on : (slot : ℕ) (e : ElementPage) → ((sheet : Sheet) → e ≡ Cells slot sheet → ⊥) → elements_on slot e ≡ []
none_on slot Free none = refl
none_on slot (Cells s sheet) none = elim (cases_eq s slot) [
  | inl same ↦ absurd (none sheet (ap (λ (n : ℕ). Cells n sheet) same))
  | inr other ↦ let f : (s == slot) ≡ false = grind (arith, nat_tests) in ap (λ (b : Bool). if b then sheet.1 else []) f
]

none_of : (slot : ℕ) (pages : List ElementPage) → ((i : ℕ) (sheet : Sheet) → element_page i pages ≡ Cells slot sheet → ⊥) → elements_of slot pages ≡ []
none_of slot [] none = refl
none_of slot (e ∷ pages) none =
    let here = none_on slot e (λ sheet is. none 0 sheet is) in
    let rest = none_of slot pages (λ i sheet is. none (suc i) sheet is) in
    λ k. here k ++ rest k

pub len_counted : (l : Layout) (space : Directory) (slot : ℕ) → IsSound l → AreFilled l → ListsPlaces space l → slot < 4096 → len (elements_at slot l.element_pages) ≡ count_of (places_of slot space)
len_counted l space slot sound filled lists within = elim (there_or (heading_at l.definitions slot)) [
  | inl none ↦ without (λ i sheet is. let fill = filled i slot sheet is in none≢some (heading_at l.definitions slot) fill.heading none fill.columns)
  | inr some ↦ elim (there_or (shape_at l.definitions slot)) [
    | inl none ↦ without (λ i sheet is. let fill = filled i slot sheet is in none≢some (shape_at l.definitions slot) fill.shape none fill.lies)
    | inr lies ↦ its_count l slot some.0 lies.0 sound filled some.1 lies.1 ∙ sym (counted l space slot lists within)
  ]
] where
  without : ((i : ℕ) (sheet : Sheet) → element_page i l.element_pages ≡ Cells slot sheet → ⊥) → len (elements_at slot l.element_pages) ≡ count_of (places_of slot space)
  without no_page =
      let empty = none_of slot l.element_pages no_page in
      ap (λ (es : List Element). len (by_stamp es)) empty ∙ len-empty int_cmp Row ∙ sym (ap (λ (es : List Element). length es) empty) ∙ sym (counted l space slot lists within)
