-- A layout without a series and its pages.
use Rattle.std.proofs.Common.{◌≡◌, ◌≢◌, ℕ, zero, suc, ◌+◌, ◌<◌, ◌≤◌, ◌==◌, if◌then◌else◌, Option, Some, None, List, [], ◌∷◌, ◌++◌, map, length, set, get_or, refl, sym, ap, subst, ◌∙◌, arith, get_or-set_same, get_or-set_other, inl, inr, lit≤, ℤ}
use Rattle.std.specs.Prelude.{IsPermutation}
use Rattle.std.specs.Option.{option_and_then}
use Rattle.std.specs.FinMap.{remove}
use Rattle.std.proofs.lemmas.Bool.{cases_eq}
use Rattle.std.proofs.lemmas.List.{length-map}
use Rattle.std.proofs.lemmas.List.Sorted.{IsPermutation-refl, IsPermutation-sym, IsPermutation-trans}
use Rattle.ts_row.specs.Row.{Heading}
use Rattle.ts_page.specs.Pages.{IsFreePage, first_element_page}
use Rattle.ts_space.specs.declared.place.Place.{Place}
use Rattle.ts_space.specs.Place.{pages_of}
use Rattle.ts_space.specs.Directory.{Directory, places_of}
use Rattle.ts_space.specs.Charge.{irregular_charge}
use Rattle.ts_cells.specs.IrregularPage.{page_room}
use Rattle.ts_model.specs.declared.kind.Kind.TheVariants as kinds
use Rattle.ts_model.specs.Definitions.{Definitions, SeriesDef, at_slot, with_slot, by_name}
use Rattle.ts_model.proofs.SlotLemmas.{by_name-clear}
use Rattle.ts_layout.specs.Slot.{header_bytes}
use Rattle.ts_layout.specs.Sheets.{Sheet, elements_in}
use Rattle.ts_layout.specs.Meaning.{ElementPage, Free, Cells, Layout, element_page, elements_of, elements_at, sheets_of, heading_in, heading_at, HoldsDefinitions, HoldsElements, HoldsLayout, AreSound, AreAllInSequence, IsSound, sum_filled, charge_on, charge_of_series, charge_of_container, name_at, kind_in, series_of, catalogue_of}
use Rattle.ts_layout.specs.Surveyed.{places_from, free_from, IsListOf, ListsPlaces}
use Rattle.ts_layout.specs.Chains.{by_stamp, AreFilled, AreAllFreed, freed, without_series}
use Rattle.ts_layout.specs.Held.{IsHeldOf}
use Rattle.ts_layout.proofs.ClearedLemmas.{heading_stays, shape_stays, sound_kept}
use Rattle.ts_layout.proofs.PageLemmas.{HasNone, has_cells, freed_own, freed_other, page_freed, cells_before}
use Rattle.ts_layout.proofs.MemberLemmas.{among_from, among_contains, among_permuted}
use Rattle.ts_layout.proofs.PairLemmas.{Numbered, pairs_from, places_in, sheets_in, numbers_in, places_from_in, sheets_of_in, elements_of_in, pairs_freed_own, pairs_freed_other, pair_among, pair_only, place_numbers}
use Rattle.ts_layout.proofs.HeldLemmas.{free_and_own}
use Rattle.ts_layout.proofs.LayoutLemmas.{none≢some, within_table}
use Rattle.ts_layout.proofs.FilledLemmas.{at_cleared, by_name_same}

-- the pages and the places of every other series stay
other_pairs : (slot s : ℕ) (pages : List ElementPage) → s ≢ slot → pairs_from s first_element_page (map (freed slot) pages) ≡ pairs_from s first_element_page pages
other_pairs slot s pages other = pairs_freed_other slot s first_element_page pages other

other_sheets : (slot s : ℕ) (pages : List ElementPage) → s ≢ slot → sheets_of s (map (freed slot) pages) ≡ sheets_of s pages
other_sheets slot s pages other = sheets_of_in s first_element_page (map (freed slot) pages) ∙ ap sheets_in (other_pairs slot s pages other) ∙ sym (sheets_of_in s first_element_page pages)

other_elements : (slot s : ℕ) (pages : List ElementPage) → s ≢ slot → elements_of s (map (freed slot) pages) ≡ elements_of s pages
other_elements slot s pages other = elements_of_in s first_element_page (map (freed slot) pages) ∙ ap (λ (pairs : List Numbered). elements_in (sheets_in pairs)) (other_pairs slot s pages other) ∙ sym (elements_of_in s first_element_page pages)

other_places : (slot s : ℕ) (pages : List ElementPage) → s ≢ slot → places_from s first_element_page (map (freed slot) pages) ≡ places_from s first_element_page pages
other_places slot s pages other = places_from_in s first_element_page (map (freed slot) pages) ∙ ap places_in (other_pairs slot s pages other) ∙ sym (places_from_in s first_element_page pages)

own_places : (slot : ℕ) (pages : List ElementPage) → places_from slot first_element_page (map (freed slot) pages) ≡ []
own_places slot pages = places_from_in slot first_element_page (map (freed slot) pages) ∙ ap places_in (pairs_freed_own slot first_element_page pages)

-- the places after
lists_dropped : (l : Layout) (space space' : Directory) (slot : ℕ) → slot < length space.lists → space'.lists ≡ set space.lists slot [] → ListsPlaces space l → ListsPlaces space' (without_series slot l)
lists_dropped l space space' slot inside lists listed s within = elim (cases_eq s slot) [
  | inl same ↦
      let now : places_of slot space' ≡ [] = ap (λ (x : List (List Place)). get_or x slot []) lists ∙ get_or-set_same space.lists slot [] [] inside in
      let none : IsPermutation [] (places_from slot first_element_page (map (freed slot) l.element_pages)) = subst (λ (x : List Place). IsPermutation [] x) (sym (own_places slot l.element_pages)) (IsPermutation-refl []) in
      let own : IsListOf slot (places_of slot space') (map (freed slot) l.element_pages) = subst (λ (x : List Place). IsListOf slot x (map (freed slot) l.element_pages)) (sym now) (record { rising = tt; all = none }) in
      subst (λ (n : ℕ). IsListOf n (places_of n space') (map (freed slot) l.element_pages)) (sym same) own
  | inr other ↦
      let before = listed s within in
      let now : places_of s space' ≡ places_of s space = ap (λ (x : List (List Place)). get_or x s []) lists ∙ get_or-set_other space.lists slot s [] [] other in
      subst (λ (x : List Place). IsListOf s x (map (freed slot) l.element_pages)) (sym now)
      (record { rising = before.rising; all = subst (IsPermutation (places_of s space)) (sym (other_places slot s l.element_pages other)) before.all })
]

filled_dropped : (l : Layout) (slot : ℕ) → AreFilled l → AreFilled (without_series slot l)
filled_dropped l slot filled i s sheet is =
    let before = cells_before slot i s sheet l.element_pages is in
    let fill = filled i s sheet before.0 in
    record {
      heading = fill.heading;
      shape = fill.shape;
      columns = heading_stays l.definitions slot s before.1 ∙ fill.columns;
      lies = shape_stays l.definitions slot s before.1 ∙ fill.lies;
      fill = fill.fill;
      of_format = fill.of_format;
    }

-- what a page holds without the series
holds_kept : (d : Definitions) (slot : ℕ) (page : List ℕ) (e : ElementPage) → HasNone slot e → HoldsElements d page e → HoldsElements (with_slot kinds.Series slot None d) page e
holds_kept d slot page Free none holds = holds
holds_kept d slot page (Cells s sheet) none holds =
    let other : s ≢ slot = λ same. none sheet (ap (λ (n : ℕ). Cells n sheet) same) in
    record {
      heading = holds.heading;
      shape = holds.shape;
      columns = heading_stays d slot s other ∙ holds.columns;
      lies = shape_stays d slot s other ∙ holds.lies;
      bytes = holds.bytes;
      of_format = holds.of_format;
    }

-- the bytes after: the page of the series is free, and the others stay
bytes_dropped : (l : Layout) (v w : ℕ → List ℕ) (slot : ℕ) → HoldsDefinitions w (with_slot kinds.Series slot None l.definitions) → w 0 ≡ v 0
    → ((i : ℕ) (sheet : Sheet) → element_page i l.element_pages ≡ Cells slot sheet → IsFreePage (w (first_element_page + i))) → ((i : ℕ) → i < length l.element_pages → HasNone slot (element_page i l.element_pages) → w (first_element_page + i) ≡ v (first_element_page + i)) → HoldsLayout v l → HoldsLayout w (without_series slot l)
bytes_dropped l v w slot defined header own others holds = record {
  header = header ∙ holds.header ∙ ap (header_bytes l.definitions.format) (sym (length-map l.element_pages (freed slot)));
  definitions = defined;
  elements = λ i within.
      let inside : i < length l.element_pages = omega (arith, within, length-map l.element_pages (freed slot)) in
      subst (HoldsElements (with_slot kinds.Series slot None l.definitions) (w (first_element_page + i))) (sym (page_freed slot i l.element_pages)) (here i inside);
} where
  here : (i : ℕ) → i < length l.element_pages → HoldsElements (with_slot kinds.Series slot None l.definitions) (w (first_element_page + i)) (freed slot (element_page i l.element_pages))
  here i inside = elim (has_cells slot (element_page i l.element_pages)) [
    | inl cells ↦
        let now : freed slot (element_page i l.element_pages) ≡ Free = ap (freed slot) cells.1 ∙ freed_own slot cells.0 in
        subst (HoldsElements (with_slot kinds.Series slot None l.definitions) (w (first_element_page + i))) (sym now) (own i cells.0 cells.1)
    | inr none ↦
        let kept = holds_kept l.definitions slot (v (first_element_page + i)) (element_page i l.element_pages) none (holds.elements i inside) in
        subst (HoldsElements (with_slot kinds.Series slot None l.definitions) (w (first_element_page + i))) (sym (freed_other slot (element_page i l.element_pages) none))
        (subst (λ (b : List ℕ). HoldsElements (with_slot kinds.Series slot None l.definitions) b (element_page i l.element_pages)) (sym (others i inside none)) kept)
  ]

-- the sum without one slot
sum_above : (f g : ℕ → SeriesDef → ℕ) (first : ℕ) (table : List (Option SeriesDef)) → ((j : ℕ) (a : SeriesDef) → first ≤ j → f j a ≡ g j a) → sum_filled f first table ≡ sum_filled g first table
sum_above f g first [] same = refl
sum_above f g first (None ∷ table) same = sum_above f g (suc first) table (λ j a above. same j a (omega (arith, above)))
sum_above f g first (Some b ∷ table) same =
    let here = same first b (omega arith) in
    let rest = sum_above f g (suc first) table (λ j a above. same j a (omega (arith, above))) in
    λ k. here k + rest k

sum_less : (f g : ℕ → SeriesDef → ℕ) (first i slot : ℕ) (table : List (Option SeriesDef)) → slot ≡ first + i → ((j : ℕ) (a : SeriesDef) → j ≢ slot → f j a ≡ g j a) → sum_filled f first (set table i None) ≤ sum_filled g first table
sum_less f g first zero slot [] at same = lit≤ tt
sum_less f g first (suc i) slot [] at same = lit≤ tt
sum_less f g first zero slot (None ∷ table) at same =
    let rest = sum_above f g (suc first) table (λ j a above. same j a (later j first slot above at)) in omega (arith, rest) where
      later : (j first slot : ℕ) → suc first ≤ j → slot ≡ first + 0 → j ≢ slot
      later j first slot above at is = omega arith
sum_less f g first zero slot (Some b ∷ table) at same =
    let rest = sum_above f g (suc first) table (λ j a above. same j a (later j first slot above at)) in omega (arith, rest) where
      later : (j first slot : ℕ) → suc first ≤ j → slot ≡ first + 0 → j ≢ slot
      later j first slot above at is = omega arith
sum_less f g first (suc i) slot (None ∷ table) at same = sum_less f g (suc first) i slot table (omega (arith, at)) same
sum_less f g first (suc i) slot (Some b ∷ table) at same =
    let here = same first b (earlier first i slot at) in
    let rest = sum_less f g (suc first) i slot table (omega (arith, at)) same in
    omega (arith, here, rest) where
      earlier : (first i slot : ℕ) → slot ≡ first + suc i → first ≢ slot
      earlier first i slot at is = omega arith

-- no container is charged more
charge_other : (slot s room : ℕ) (pages : List ElementPage) (regular : Option (ℕ × ℤ)) → s ≢ slot → charge_on (map (freed slot) pages) room s regular ≡ charge_on pages room s regular
charge_other slot s room pages None other = λ k. irregular_charge room (length (other_elements slot s pages other k))
charge_other slot s room pages (Some regular) other = λ k. length (other_sheets slot s pages other k)

charge_less : (l : Layout) (slot container room : ℕ) → charge_of_container (without_series slot l) container room ≤ charge_of_container l container room
charge_less l slot container room =
    let at : slot ≡ 0 + slot = omega arith in
    sum_less (charge_of_series (map (freed slot) l.element_pages) container room) (charge_of_series l.element_pages container room) 0 slot slot l.definitions.series at
    (λ j s other k. if s.container == container then charge_other slot j room l.element_pages s.regular other k else 0)

-- the sheets of each series after
no_heading : (d : Definitions) (slot : ℕ) (h : Heading) → slot < length d.series → heading_at (with_slot kinds.Series slot None d) slot ≡ Some h → ⊥
no_heading d slot h within there = none≢some None h refl (sym (ap (option_and_then (λ (x : SeriesDef). heading_in d x.container)) (get_or-set_same d.series slot None None within)) ∙ there)

sequences_dropped : (l : Layout) (slot : ℕ) → slot < 4096 → IsSound l → AreAllInSequence (without_series slot l)
sequences_dropped l slot small sound s h shape there lies = elim (cases_eq s slot) [
  | inl same ↦
      let size = sound.definitions.tables.series.size in
      absurd (no_heading l.definitions slot h (omega (arith, small, size)) (ap (heading_at (with_slot kinds.Series slot None l.definitions)) (sym same) ∙ there))
  | inr other ↦
      let before = sound.sequences s h shape (sym (heading_stays l.definitions slot s other) ∙ there) (sym (shape_stays l.definitions slot s other) ∙ lies) in
      record { sheets = before.sheets; is = before.is; all = subst (IsPermutation before.sheets) (sym (other_sheets slot s l.element_pages other)) before.all }
]

-- the rules after
rules_dropped : (l : Layout) (slot : ℕ) → slot < 4096 → IsSound l → IsSound (without_series slot l)
rules_dropped l slot small sound =
    let long : length l.element_pages ≡ length (map (freed slot) l.element_pages) = sym (length-map l.element_pages (freed slot)) in
    record {
      some = subst (λ (n : ℕ). 1 ≤ n) long sound.some;
      most = subst (λ (n : ℕ). n ≤ 65536) long sound.most;
      definitions = subst (λ (n : ℕ). AreSound n (with_slot kinds.Series slot None l.definitions)) long (sound_kept l.definitions slot (length l.element_pages) small sound.definitions);
      sequences = sequences_dropped l slot small sound;
      charges = λ k c h there heading.
          let before = sound.charges k c h there heading in
          let less = charge_less l slot k (page_room h.columns) in
          omega (arith, before, less);
    }

-- every other series stays
series_kept : (l : Layout) (slot j : ℕ) (s : SeriesDef) → j ≢ slot → series_of (without_series slot l) j s ≡ series_of l j s
series_kept l slot j s other =
    let same : elements_at j (map (freed slot) l.element_pages) ≡ elements_at j l.element_pages = ap by_stamp (other_elements slot j l.element_pages other) in
    λ k. record { container = name_at (λ c. c.name) s.container l.definitions.containers; kind = kind_in l.definitions s.regular; elements = same k }

-- the catalogue after
pub series_gone_catalogue : (l : Layout) (slot : ℕ) (s : SeriesDef) → IsSound l → at_slot slot l.definitions.series ≡ Some s → catalogue_of (without_series slot l) ≡ record (catalogue_of l) { series = remove (catalogue_of l).series s.key }
series_gone_catalogue l slot s sound there =
    let table : List (Option SeriesDef) = l.definitions.series in
    let same : by_name (λ s. s.key) (series_of (without_series slot l)) (set table slot None) ≡ by_name (λ s. s.key) (series_of l) (set table slot None) =
    by_name_same (λ s. s.key) (series_of (without_series slot l)) (series_of l) (set table slot None) (λ j b here. series_kept l slot j b (at_cleared table slot j b (within_table table slot s there) here).0) in
    let whole : by_name (λ s. s.key) (series_of (without_series slot l)) (set table slot None) ≡ remove (by_name (λ s. s.key) (series_of l) table) s.key =
    same ∙ by_name-clear (λ s. s.key) (series_of l) table slot s sound.definitions.tables.series.apart there in
    λ k. record {
      format = l.definitions.format;
      pages = length-map l.element_pages (freed slot) k;
      row_types = (catalogue_of l).row_types;
      patterns = (catalogue_of l).patterns;
      calendars = (catalogue_of l).calendars;
      containers = (catalogue_of l).containers;
      series = whole k;
    }

-- where the series has a page, and where it has none
apart_pages : (i j : ℕ) → j ≢ i → first_element_page + j ≢ first_element_page + i
apart_pages i j other is = other (omega (arith, is))

-- a series is dropped with its pages
pub series_gone_bytes : (l : Layout) (space : Directory) (slot : ℕ) (v w : ℕ → List ℕ) → IsSound l → ListsPlaces space l → slot < 4096 → HoldsDefinitions w (with_slot kinds.Series slot None l.definitions) → w 0 ≡ v 0
    → AreAllFreed (places_of slot space) v w → HoldsLayout v l → HoldsLayout w (without_series slot l)
series_gone_bytes l space slot v w sound listed within defined header all holds = bytes_dropped l v w slot defined header
    (λ i sheet is. all.freed (first_element_page + i) (among_contains (pages_of (places_of slot space)) (first_element_page + i) (among_permuted numbers (pages_of (places_of slot space)) (first_element_page + i) (IsPermutation-sym (pages_of (places_of slot space)) numbers own) (pair_among slot first_element_page i sheet l.element_pages is))))
    (λ i inside none. all.others (first_element_page + i) (omega arith) (λ there.
    let at = pair_only slot first_element_page (first_element_page + i) l.element_pages (among_permuted (pages_of (places_of slot space)) numbers (first_element_page + i) own (among_from (pages_of (places_of slot space)) (first_element_page + i) there)) in
    none at.1 (ap (λ (n : ℕ). element_page n l.element_pages) (same_index i at.0 at.2) ∙ at.3)))
    holds
  where
    numbers : List ℕ
    numbers = numbers_in (pairs_from slot first_element_page l.element_pages)

    own : IsPermutation (pages_of (places_of slot space)) numbers
    own = place_numbers slot (places_of slot space) l.element_pages (listed slot within)

    same_index : (i j : ℕ) → first_element_page + i ≡ first_element_page + j → i ≡ j
    same_index i j is = omega (arith, is)

pub series_gone_held : (l : Layout) (space space' : Directory) (slot count : ℕ) (free free' : List ℕ) → IsHeldOf l.definitions space count free l → slot < 4096 → length space.lists ≡ 4096 → space'.lists ≡ set space.lists slot []
    → IsPermutation (free ++ pages_of (places_of slot space)) free' → IsHeldOf (with_slot kinds.Series slot None l.definitions) space' count free' (without_series slot l)
series_gone_held l space space' slot count free free' held within slots lists moved = record {
  definitions = refl;
  size = held.size ∙ ap (λ (n : ℕ). first_element_page + n) (sym (length-map l.element_pages (freed slot)));
  places = lists_dropped l space space' slot (omega (arith, within, slots)) lists held.places;
  free = IsPermutation-trans free' (free ++ pages_of (places_of slot space)) (free_from first_element_page (map (freed slot) l.element_pages)) (IsPermutation-sym (free ++ pages_of (places_of slot space)) free' moved)
      (free_and_own l.definitions space count free l slot held within);
  rules = rules_dropped l slot within held.rules;
  filled = filled_dropped l slot held.filled;
}
