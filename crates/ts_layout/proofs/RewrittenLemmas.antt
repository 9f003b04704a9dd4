-- The pages of a series become others, which have other sheets.
use Rattle.std.specs.Prelude.{IsPermutation}
use Rattle.std.specs.FinMap.{insert}
use Rattle.std.proofs.Common.{◌≡◌, ◌≢◌, ℕ, suc, ◌+◌, ◌-◌, ◌<◌, ◌≤◌, ◌==◌, ◌⊎◌, Bool, true, false, if◌then◌else◌, ◌||◌, Option, Some, None, List, [], ◌∷◌, ◌++◌, map, length, set, get_or, get_or-set_same, get_or-set_other, refl, sym, ap, subst, ◌∙◌, arith, inl, inr, length-set, ℤ}
use Rattle.std.proofs.lemmas.Bool.{cases_eq}
use Rattle.std.proofs.lemmas.List.{append-nil, length-map}
use Rattle.std.proofs.lemmas.List.Folds.{list_any-append}
use Rattle.std.proofs.lemmas.List.Sorted.{IsPermutation-refl, IsPermutation-sym, IsPermutation-trans, IsPermutation-cons, IsPermutation-middle, IsPermutation-map, IsPermutation-append_right}
use Rattle.ts_row.specs.Row.{Heading, Element, has_hidden}
use Rattle.ts_row.specs.declared.kind.Column.{Column}
use Rattle.ts_page.specs.Pages.{Contents, IsFreePage, first_element_page}
use Rattle.ts_space.specs.declared.place.Place.{Place}
use Rattle.ts_space.specs.Place.{pages_of}
use Rattle.ts_space.specs.Directory.{Directory, places_of}
use Rattle.ts_space.specs.Charge.{irregular_charge}
use Rattle.ts_cells.specs.IrregularPage.{page_room}
use Rattle.ts_offset.specs.declared.shape.Shape.{Shape}
use Rattle.ts_model.specs.Catalogue.{Series, old_format}
use Rattle.ts_model.specs.Definitions.{SeriesDef, at_slot, by_name}
use Rattle.ts_layout.specs.Slot.{header_bytes}
use Rattle.ts_layout.specs.Meaning.{AreOfFormat, ElementPage, Free, Cells, Layout, element_page, elements_of, elements_at, sheets_of, HoldsElements, HoldsLayout, AreSound, IsInSequence, AreAllInSequence, IsSound, heading_at, shape_at, charge_on, charge_of_series, charge_of_container, name_at, kind_in, series_of, catalogue_of}
use Rattle.ts_layout.specs.Sheets.{Sheet, HoldsSheet, AreSheetsOn, elements_in, place_of_sheet}
use Rattle.ts_layout.specs.Surveyed.{places_from, free_from, IsListOf, ListsPlaces}
use Rattle.ts_layout.specs.Chains.{by_stamp, with_elements_at, IsFilledFor, AreFilled, KeepsQuotaOf, freed, with_sheets, rewritten}
use Rattle.ts_layout.specs.Held.{IsHeldOf, IsRewrittenIn}
use Rattle.ts_layout.proofs.OptionLemmas.{one_of}
use Rattle.ts_layout.proofs.MemberLemmas.{Among, AreOnce, among_from, among_permuted, among_front, among_back, among_either, all_among, once_from, once_back, rest_permuted}
use Rattle.ts_layout.proofs.PageLemmas.{free_cells, same_cells, page_set, page_other, cells_before, sum_same, not_equal, its_container}
use Rattle.ts_layout.proofs.PairLemmas.{Numbered, pairs_from, places_in, sheets_in, places_from_in, sheets_of_in, elements_of_in, pairs_freed_own, pairs_freed_other, pairs_set_own, pairs_set_other, free_set, free_among, free_only}
use Rattle.ts_layout.proofs.PermutedLemmas.{pairs_permuted}
use Rattle.ts_layout.proofs.SheetLemmas.{IsLaidOn, fill_of}
use Rattle.ts_layout.proofs.SeriesSheetLemmas.{sheets_fill}
use Rattle.ts_layout.proofs.LaidLemmas.{laid_at}
use Rattle.ts_layout.proofs.FreeLemmas.{filled_within}
use Rattle.ts_layout.proofs.FreeListLemmas.{free_different}
use Rattle.ts_layout.proofs.HeldLemmas.{free_and_own}
use Rattle.ts_layout.proofs.NamedLemmas.{changed}
use Rattle.ts_layout.proofs.SeriesChainLemmas.{sheets_elements}
use Rattle.ts_layout.proofs.WrittenLemmas.{definitions_stay}

-- each number is that of a free page, and stands there once
abbrev pub AreFreeIn : List ElementPage → List ℕ → Type 0
AreFreeIn pages [] = Unit {0}
AreFreeIn pages (n ∷ ns) = ((i : ℕ) × (n ≡ first_element_page + i) × (i < length pages) × (element_page i pages ≡ Free)) × (Among n ns → ⊥) × AreFreeIn pages ns

free_in : (pages : List ElementPage) (ns : List ℕ) → AreOnce ns → ((n : ℕ) → Among n ns → Among n (free_from first_element_page pages)) → AreFreeIn pages ns
free_in pages [] once there = tt
free_in pages (n ∷ ns) once there = (free_only first_element_page n pages (there n (inl refl)), once.0, free_in pages ns once.1 (λ m here. there m (inr here)))

index_is : (n i : ℕ) → n ≡ first_element_page + i → n - first_element_page ≡ i
index_is n i is = omega (arith, is)

number_is : (n i : ℕ) → n ≡ first_element_page + i → first_element_page + (n - first_element_page) ≡ n
number_is n i is = omega (arith, is)

same_number : (n i j : ℕ) → n ≡ first_element_page + i → j ≡ n - first_element_page → first_element_page + j ≡ n
same_number n i j is at = omega (arith, is, at)

other_index : (n i j : ℕ) → n ≡ first_element_page + i → first_element_page + j ≡ n → j ≡ n - first_element_page
other_index n i j is at = omega (arith, is, at)

-- the numbers of pages beside their sheets
abbrev zipped : List ℕ → List Sheet → List Numbered
zipped [] sheets = []
zipped (n ∷ ns) [] = []
zipped (n ∷ ns) (sheet ∷ sheets) = (n, sheet) ∷ zipped ns sheets

module _ (slot : ℕ) (pages : List ElementPage) where
  length_with : (ns : List ℕ) (sheets : List Sheet) → length (with_sheets slot ns sheets pages) ≡ length pages
  length_with [] sheets = refl
  length_with (n ∷ ns) [] = refl
  length_with (n ∷ ns) (sheet ∷ sheets) = length-set (with_sheets slot ns sheets pages) (n - first_element_page) (Cells slot sheet) ∙ length_with ns sheets

  -- a page that is none of them stays
  with_other : (ns : List ℕ) (sheets : List Sheet) → AreFreeIn pages ns → (i : ℕ) → (Among (first_element_page + i) ns → ⊥) → element_page i (with_sheets slot ns sheets pages) ≡ element_page i pages
  with_other [] sheets free i other = refl
  with_other (n ∷ ns) [] free i other = refl
  with_other (n ∷ ns) (sheet ∷ sheets) free i other =
      page_other (with_sheets slot ns sheets pages) (n - first_element_page) i (Cells slot sheet) (λ same. other (inl (same_number n free.0.0 i free.0.1 same)))
      ∙ with_other ns sheets free.2 i (λ there. other (inr there))

  -- the page of the first of them, before it is written
  first_free : (n : ℕ) (ns : List ℕ) (sheets : List Sheet) → AreFreeIn pages (n ∷ ns) → (n - first_element_page < length (with_sheets slot ns sheets pages)) × (element_page (n - first_element_page) (with_sheets slot ns sheets pages) ≡ Free)
  first_free n ns sheets free =
      let at : n - first_element_page ≡ free.0.0 = index_is n free.0.0 free.0.1 in
      let again : first_element_page + (n - first_element_page) ≡ n = number_is n free.0.0 free.0.1 in
      let long = length_with ns sheets in
      let low = free.0.2 in
      (omega (arith, at, long, low), with_other ns sheets free.2 (n - first_element_page) (λ there. free.1 (subst (λ (m : ℕ). Among m ns) again there)) ∙ ap (λ (k : ℕ). element_page k pages) at ∙ free.0.3)

  -- the pages of the series then
  pairs_with : (ns : List ℕ) (sheets : List Sheet) → AreFreeIn pages ns → IsPermutation (pairs_from slot first_element_page (with_sheets slot ns sheets pages)) (zipped ns sheets ++ pairs_from slot first_element_page pages)
  pairs_with [] sheets free = IsPermutation-refl (pairs_from slot first_element_page pages)
  pairs_with (n ∷ ns) [] free = IsPermutation-refl (pairs_from slot first_element_page pages)
  pairs_with (n ∷ ns) (sheet ∷ sheets) free =
      let before : List ElementPage = with_sheets slot ns sheets pages in
      let here = first_free n ns sheets free in
      let more : IsPermutation (pairs_from slot first_element_page (set before (n - first_element_page) (Cells slot sheet))) ((n, sheet) ∷ pairs_from slot first_element_page before) =
      subst (λ (m : ℕ). IsPermutation (pairs_from slot first_element_page (set before (n - first_element_page) (Cells slot sheet))) ((m, sheet) ∷ pairs_from slot first_element_page before)) (number_is n free.0.0 free.0.1) (pairs_set_own slot first_element_page (n - first_element_page) sheet before here.0 here.1) in
      IsPermutation-trans (pairs_from slot first_element_page (set before (n - first_element_page) (Cells slot sheet))) ((n, sheet) ∷ pairs_from slot first_element_page before) ((n, sheet) ∷ (zipped ns sheets ++ pairs_from slot first_element_page pages)) more
      (IsPermutation-cons (n, sheet) (pairs_from slot first_element_page before) (zipped ns sheets ++ pairs_from slot first_element_page pages) (pairs_with ns sheets free.2))

  -- and of another one
  pairs_with_other : (s : ℕ) (ns : List ℕ) (sheets : List Sheet) → s ≢ slot → AreFreeIn pages ns → pairs_from s first_element_page (with_sheets slot ns sheets pages) ≡ pairs_from s first_element_page pages
  pairs_with_other s [] sheets other free = refl
  pairs_with_other s (n ∷ ns) [] other free = refl
  pairs_with_other s (n ∷ ns) (sheet ∷ sheets) other free =
      pairs_set_other slot s first_element_page (n - first_element_page) sheet (with_sheets slot ns sheets pages) other (first_free n ns sheets free).1 ∙ pairs_with_other s ns sheets other free.2

  -- and the free ones
  free_with : (ns : List ℕ) (sheets : List Sheet) → length ns ≡ length sheets → AreFreeIn pages ns → IsPermutation (free_from first_element_page pages) (ns ++ free_from first_element_page (with_sheets slot ns sheets pages))
  free_with [] sheets same free = IsPermutation-refl (free_from first_element_page pages)
  free_with (n ∷ ns) [] same free = absurd (omega (arith, same))
  free_with (n ∷ ns) (sheet ∷ sheets) same free =
      let before : List ElementPage = with_sheets slot ns sheets pages in
      let left : List ℕ = free_from first_element_page (set before (n - first_element_page) (Cells slot sheet)) in
      let here = first_free n ns sheets free in
      let one : IsPermutation (free_from first_element_page before) (n ∷ left) =
      subst (λ (m : ℕ). IsPermutation (free_from first_element_page before) (m ∷ left)) (number_is n free.0.0 free.0.1) (free_set slot first_element_page (n - first_element_page) sheet before here.0 here.1) in
      IsPermutation-trans (free_from first_element_page pages) (ns ++ free_from first_element_page before) (n ∷ (ns ++ left)) (free_with ns sheets (omega (arith, same)) free.2)
      (IsPermutation-trans (ns ++ free_from first_element_page before) (ns ++ n ∷ left) (n ∷ (ns ++ left)) (IsPermutation-append_right ns (free_from first_element_page before) (n ∷ left) one) (IsPermutation-middle ns n left))

-- elements of the format, side by side
neither : (a b : Bool) → (a || b) ≡ false → (a ≡ false) × (b ≡ false)
neither true b is = absurd (let no : ⊥ = cc in no)
neither false b is = (refl, is)

formats_apart : (format : ℕ) (es fs : List Element) → AreOfFormat format (es ++ fs) → AreOfFormat format es × AreOfFormat format fs
formats_apart format es fs both = (λ old. (parts old).0, λ old. (parts old).1) where
  parts : format ≡ old_format → (has_hidden es ≡ false) × (has_hidden fs ≡ false)
  parts old = neither (has_hidden es) (has_hidden fs) (sym (list_any-append (λ (e : Element). e.1.hidden) es fs) ∙ both old)

-- the places of sheets, their elements and their pages
sheets_length : (shape : Shape) (slot : ℕ) (columns : List Column) (bytes : ℕ → List ℕ) (new : List Place) (sheets : List Sheet) → AreSheetsOn shape slot columns bytes new sheets → length (pages_of new) ≡ length sheets
sheets_length shape slot columns bytes [] [] on = refl
sheets_length shape slot columns bytes [] (sheet ∷ sheets) on = absurd on
sheets_length shape slot columns bytes (p ∷ new) [] on = absurd on
sheets_length shape slot columns bytes (p ∷ new) (sheet ∷ sheets) on = ap suc (sheets_length shape slot columns bytes new sheets on.1)

sheets_zipped : (ns : List ℕ) (sheets : List Sheet) → length ns ≡ length sheets → sheets_in (zipped ns sheets) ≡ sheets
sheets_zipped [] [] same = refl
sheets_zipped [] (sheet ∷ sheets) same = absurd (omega (arith, same))
sheets_zipped (n ∷ ns) [] same = absurd (omega (arith, same))
sheets_zipped (n ∷ ns) (sheet ∷ sheets) same = ap (λ (l : List Sheet). sheet ∷ l) (sheets_zipped ns sheets (omega (arith, same)))

places_zipped : (shape : Shape) (slot : ℕ) (columns : List Column) (bytes : ℕ → List ℕ) (new : List Place) (sheets : List Sheet) → AreSheetsOn shape slot columns bytes new sheets → places_in (zipped (pages_of new) sheets) ≡ new
places_zipped shape slot columns bytes [] [] on = refl
places_zipped shape slot columns bytes [] (sheet ∷ sheets) on = absurd on
places_zipped shape slot columns bytes (p ∷ new) [] on = absurd on
places_zipped shape slot columns bytes (p ∷ new) (sheet ∷ sheets) on = λ i. sym on.0.tells i ∷ places_zipped shape slot columns bytes new sheets on.1 i

-- a page then: one of the sheets, or as it was
abbrev IsPageThen : Shape → ℕ → ℕ → List Column → (ℕ → List ℕ) → List ElementPage → List ℕ → List ElementPage → ℕ → Type 0
IsPageThen shape slot format columns bytes pages ns after i =
    ((sheet : Sheet) × (element_page i after ≡ Cells slot sheet) × HoldsSheet shape slot columns sheet (bytes (first_element_page + i)) × AreOfFormat format sheet.1)
    ⊎ ((Among (first_element_page + i) ns → ⊥) × (element_page i after ≡ element_page i pages))

page_then : (shape : Shape) (slot format : ℕ) (columns : List Column) (bytes : ℕ → List ℕ) (pages : List ElementPage) (new : List Place) (sheets : List Sheet) → AreSheetsOn shape slot columns bytes new sheets → AreOfFormat format (elements_in sheets)
    → AreFreeIn pages (pages_of new) → (i : ℕ) → IsPageThen shape slot format columns bytes pages (pages_of new) (with_sheets slot (pages_of new) sheets pages) i
page_then shape slot format columns bytes pages [] [] on of_format free i = inr (λ there. there, refl)
page_then shape slot format columns bytes pages [] (sheet ∷ sheets) on of_format free i = absurd on
page_then shape slot format columns bytes pages (p ∷ new) [] on of_format free i = absurd on
page_then shape slot format columns bytes pages (p ∷ new) (sheet ∷ sheets) on of_format free i =
    let parts = formats_apart format sheet.1 (elements_in sheets) of_format in
    let before : List ElementPage = with_sheets slot (pages_of new) sheets pages in
    elim (cases_eq i (p.page - first_element_page)) [
      | inl same ↦
          let here = first_free slot pages p.page (pages_of new) sheets free in
          let number : p.page ≡ first_element_page + i = sym (same_number p.page free.0.0 i free.0.1 same) in
          inl (
            sheet,
            ap (λ (k : ℕ). element_page k (set before (p.page - first_element_page) (Cells slot sheet))) same ∙ page_set before (p.page - first_element_page) (Cells slot sheet) here.0,
            subst (λ (n : ℕ). HoldsSheet shape slot columns sheet (bytes n)) number on.0.bytes,
            parts.0,
          )
      | inr other ↦
          let stays = page_other before (p.page - first_element_page) i (Cells slot sheet) other in
          elim (page_then shape slot format columns bytes pages new sheets on.1 parts.1 free.2 i) [
            | inl there ↦ inl (there.0, stays ∙ there.1, there.2, there.3)
            | inr none ↦ inr (λ there. elim there [ inl is ↦ other (other_index p.page free.0.0 i free.0.1 is) | inr behind ↦ none.0 behind ], stays ∙ none.1)
          ]
    ]

free_or_cells : (e : ElementPage) → (e ≡ Free) ⊎ ((s : ℕ) × (sheet : Sheet) × (e ≡ Cells s sheet))
free_or_cells Free = inl refl
free_or_cells (Cells s sheet) = inr (s, sheet, refl)

none_below : (n i : ℕ) → n < first_element_page → n ≡ first_element_page + i → ⊥
none_below n i below is = omega (arith, below, is)

module _ (l : Layout) (space : Directory) (shape : Shape) (slot : ℕ) (h : Heading) (new : List Place) (sheets : List Sheet) (v w : Contents) (r : IsRewrittenIn shape slot h space new sheets v w l) where
  abbrev emptied : List ElementPage
  emptied = map (freed slot) l.element_pages

  abbrev after : List ElementPage
  after = with_sheets slot (pages_of new) sheets emptied

  abbrev old : List Place
  old = places_of slot space

  within : slot < 4096
  within = filled_within l.definitions slot h r.held.rules.definitions.tables r.heading

  -- the pages of the series, and the free ones
  base : IsPermutation (v.free ++ pages_of old) (free_from first_element_page emptied)
  base = free_and_own l.definitions space v.count v.free l slot r.held within

  taken : IsPermutation (w.free ++ pages_of new) (free_from first_element_page emptied)
  taken = IsPermutation-trans (w.free ++ pages_of new) (v.free ++ pages_of old) (free_from first_element_page emptied) (IsPermutation-sym (v.free ++ pages_of old) (w.free ++ pages_of new) r.edit.pages) base

  once : AreOnce (w.free ++ pages_of new)
  once = once_from (w.free ++ pages_of new)
      (pairs_permuted (λ (a b : ℕ). a ≢ b) (λ a b other same. other (sym same)) (free_from first_element_page emptied) (w.free ++ pages_of new) (IsPermutation-sym (w.free ++ pages_of new) (free_from first_element_page emptied) taken) (free_different first_element_page emptied))

  free_new : AreFreeIn emptied (pages_of new)
  free_new = free_in emptied (pages_of new) (once_back w.free (pages_of new) once) (λ n there. among_permuted (w.free ++ pages_of new) (free_from first_element_page emptied) n taken (among_back w.free (pages_of new) n there))

  as_long : length (pages_of new) ≡ length sheets
  as_long = sheets_length shape slot h.columns w.page new sheets r.edit.on

  left : IsPermutation w.free (free_from first_element_page after)
  left = rest_permuted w.free (free_from first_element_page after) (pages_of new) once
      (IsPermutation-trans (w.free ++ pages_of new) (free_from first_element_page emptied) (pages_of new ++ free_from first_element_page after) taken (free_with slot emptied (pages_of new) sheets as_long free_new))

  long : length after ≡ length l.element_pages
  long = length_with slot emptied (pages_of new) sheets ∙ length-map l.element_pages (freed slot)

  -- a page that was neither free nor one of the series stays
  page_stays : (n : ℕ) → (Among n (free_from first_element_page emptied) → ⊥) → w.page n ≡ v.page n
  page_stays n other = r.edit.others n
      (λ there. other (among_permuted (v.free ++ pages_of old) (free_from first_element_page emptied) n base (among_back v.free (pages_of old) n (among_from (pages_of old) n there))))
      (λ there. other (among_permuted (v.free ++ pages_of old) (free_from first_element_page emptied) n base (among_front v.free (pages_of old) n (among_from v.free n there))))

  low_stays : (n : ℕ) → n < first_element_page → w.page n ≡ v.page n
  low_stays n below = page_stays n (λ there. let at = free_only first_element_page n emptied there in none_below n at.0 below at.1)

  then_page : (i : ℕ) → IsPageThen shape slot l.definitions.format h.columns w.page emptied (pages_of new) after i
  then_page = page_then shape slot l.definitions.format h.columns w.page emptied new sheets r.edit.on r.of_format free_new

  -- what the pages hold
  holds_free : (i : ℕ) → i < length l.element_pages → (Among (first_element_page + i) (pages_of new) → ⊥) → element_page i emptied ≡ Free → IsFreePage (w.page (first_element_page + i))
  holds_free i inside other free =
      let there : Among (first_element_page + i) (free_from first_element_page emptied) = free_among first_element_page i emptied (omega (arith, inside, length-map l.element_pages (freed slot))) free in
      elim (among_either w.free (pages_of new) (first_element_page + i) (among_permuted (free_from first_element_page emptied) (w.free ++ pages_of new) (first_element_page + i) (IsPermutation-sym (w.free ++ pages_of new) (free_from first_element_page emptied) taken) there)) [
        | inl in_free ↦ all_among (λ (n : ℕ). IsFreePage (w.page n)) w.free (first_element_page + i) r.edit.freed in_free
        | inr in_new ↦ absurd (other in_new)
      ]

  holds_other : (i s : ℕ) (sheet : Sheet) → HoldsLayout v.page l → i < length l.element_pages → element_page i emptied ≡ Cells s sheet → HoldsElements l.definitions (w.page (first_element_page + i)) (Cells s sheet)
  holds_other i s sheet holds inside is =
      let before = cells_before slot i s sheet l.element_pages is in
      let stays = page_stays (first_element_page + i) (λ there.
      let at = free_only first_element_page (first_element_page + i) emptied there in
      let same : at.0 ≡ i = same_index at.0 i at.1 in
      free_cells s sheet (sym at.3 ∙ ap (λ (k : ℕ). element_page k emptied) same ∙ is)) in
      subst (λ (b : List ℕ). HoldsElements l.definitions b (Cells s sheet)) (sym stays) (subst (HoldsElements l.definitions (v.page (first_element_page + i))) before.0 (holds.elements i inside)) where
        same_index : (j i : ℕ) → first_element_page + i ≡ first_element_page + j → j ≡ i
        same_index j i is = omega (arith, is)

  bytes_after : HoldsLayout v.page l → HoldsLayout w.page (rewritten slot (pages_of new) sheets l)
  bytes_after holds = record {
    header = low_stays 0 (omega arith) ∙ holds.header ∙ ap (header_bytes l.definitions.format) (sym long);
    definitions = definitions_stay v.page w.page l.definitions low_stays holds.definitions;
    elements = λ i inside.
        let inside' : i < length l.element_pages = omega (arith, inside, long) in
        elim (then_page i) [
          | inl on ↦ subst (HoldsElements l.definitions (w.page (first_element_page + i))) (sym on.1) (record { heading = h; shape = shape; columns = r.heading; lies = r.lies; bytes = on.2; of_format = on.3 })
          | inr none ↦ subst (HoldsElements l.definitions (w.page (first_element_page + i))) (sym none.1) (elim (free_or_cells (element_page i emptied)) [
            | inl free ↦ subst (HoldsElements l.definitions (w.page (first_element_page + i))) (sym free) (holds_free i inside' none.0 free)
            | inr cells ↦ subst (HoldsElements l.definitions (w.page (first_element_page + i))) (sym cells.2) (holds_other i cells.0 cells.1 holds inside' cells.2)
          ])
        ];
  }

  -- the pages of each series
  own_pairs : IsPermutation (pairs_from slot first_element_page after) (zipped (pages_of new) sheets)
  own_pairs = subst (IsPermutation (pairs_from slot first_element_page after)) (ap (λ (l' : List Numbered). zipped (pages_of new) sheets ++ l') (pairs_freed_own slot first_element_page l.element_pages) ∙ append-nil (zipped (pages_of new) sheets)) (pairs_with slot emptied (pages_of new) sheets free_new)

  other_pairs : (s : ℕ) → s ≢ slot → pairs_from s first_element_page after ≡ pairs_from s first_element_page l.element_pages
  other_pairs s other = pairs_with_other slot emptied s (pages_of new) sheets other free_new ∙ pairs_freed_other slot s first_element_page l.element_pages other

  other_sheets : (s : ℕ) → s ≢ slot → sheets_of s after ≡ sheets_of s l.element_pages
  other_sheets s other = sheets_of_in s first_element_page after ∙ ap sheets_in (other_pairs s other) ∙ sym (sheets_of_in s first_element_page l.element_pages)

  other_elements : (s : ℕ) → s ≢ slot → elements_of s after ≡ elements_of s l.element_pages
  other_elements s other = elements_of_in s first_element_page after ∙ ap (λ (pairs : List Numbered). elements_in (sheets_in pairs)) (other_pairs s other) ∙ sym (elements_of_in s first_element_page l.element_pages)

  other_places : (s : ℕ) → s ≢ slot → places_from s first_element_page after ≡ places_from s first_element_page l.element_pages
  other_places s other = places_from_in s first_element_page after ∙ ap places_in (other_pairs s other) ∙ sym (places_from_in s first_element_page l.element_pages)

  own_sheets : IsPermutation sheets (sheets_of slot after)
  own_sheets =
      subst (λ (x : List Sheet). IsPermutation x (sheets_of slot after)) (sheets_zipped (pages_of new) sheets as_long)
      (subst (IsPermutation (sheets_in (zipped (pages_of new) sheets))) (sym (sheets_of_in slot first_element_page after))
      (IsPermutation-map (λ (p : Numbered). p.1) (zipped (pages_of new) sheets) (pairs_from slot first_element_page after) (IsPermutation-sym (pairs_from slot first_element_page after) (zipped (pages_of new) sheets) own_pairs)))

  own_places : IsPermutation new (places_from slot first_element_page after)
  own_places =
      subst (λ (x : List Place). IsPermutation x (places_from slot first_element_page after)) (places_zipped shape slot h.columns w.page new sheets r.edit.on)
      (subst (IsPermutation (places_in (zipped (pages_of new) sheets))) (sym (places_from_in slot first_element_page after))
      (IsPermutation-map (λ (p : Numbered). place_of_sheet p.0 p.1) (zipped (pages_of new) sheets) (pairs_from slot first_element_page after) (IsPermutation-sym (pairs_from slot first_element_page after) (zipped (pages_of new) sheets) own_pairs)))

  -- the directory
  lists_after : (space' : Directory) → space'.lists ≡ set space.lists slot new → ListsPlaces space' (rewritten slot (pages_of new) sheets l)
  lists_after space' lists s small = elim (cases_eq s slot) [
    | inl same ↦
        let inside : slot < length space.lists = let z = r.slots in let y = within in omega (arith, y, z) in
        let now : places_of slot space' ≡ new = ap (λ (x : List (List Place)). get_or x slot []) lists ∙ get_or-set_same space.lists slot new [] inside in
        let own : IsListOf slot (places_of slot space') after = subst (λ (x : List Place). IsListOf slot x after) (sym now) (record { rising = r.edit.rising; all = own_places }) in
        subst (λ (n : ℕ). IsListOf n (places_of n space') after) (sym same) own
    | inr other ↦
        let before = r.held.places s small in
        let now : places_of s space' ≡ places_of s space = ap (λ (x : List (List Place)). get_or x s []) lists ∙ get_or-set_other space.lists slot s new [] other in
        subst (λ (x : List Place). IsListOf s x after) (sym now) (record { rising = before.rising; all = subst (IsPermutation (places_of s space)) (sym (other_places s other)) before.all })
  ]

  -- the rules
  laid : IsLaidOn shape
  laid = laid_at l.definitions (length l.element_pages) slot shape r.held.rules.definitions r.lies

  rewritten_filled : AreFilled (rewritten slot (pages_of new) sheets l)
  rewritten_filled i s sheet is = elim (then_page i) [
    | inl on ↦
        let both = same_cells slot s on.0 sheet (sym on.1 ∙ is) in
        let own : IsFilledFor l.definitions slot on.0 = record { heading = h; shape = shape; columns = r.heading; lies = r.lies; fill = fill_of shape slot h.columns on.0 (w.page (first_element_page + i)) on.2; of_format = on.3 } in
        subst (λ (n : ℕ). IsFilledFor l.definitions n sheet) both.0 (subst (IsFilledFor l.definitions slot) both.1 own)
    | inr none ↦ r.held.filled i s sheet (cells_before slot i s sheet l.element_pages (sym none.1 ∙ is)).0
  ]

  rewritten_sequences : AreAllInSequence (rewritten slot (pages_of new) sheets l)
  rewritten_sequences s h' shape' there there' = elim (cases_eq s slot) [
    | inl same ↦
        let one : h ≡ h' = one_of (heading_at l.definitions slot) h h' r.heading (ap (heading_at l.definitions) (sym same) ∙ there) in
        let two : shape ≡ shape' = one_of (shape_at l.definitions slot) shape shape' r.lies (ap (shape_at l.definitions) (sym same) ∙ there') in
        subst (λ (n : ℕ). IsInSequence shape' n h'.columns after) (sym same) (subst (λ (x : Heading). IsInSequence shape' slot x.columns after) one
        (subst (λ (x : Shape). IsInSequence x slot h.columns after) two (record { sheets = sheets; is = r.edit.is; all = own_sheets })))
    | inr other ↦
        let before = r.held.rules.sequences s h' shape' there there' in
        record { sheets = before.sheets; is = before.is; all = subst (IsPermutation before.sheets) (sym (other_sheets s other)) before.all }
  ]

  charge_other : (s room : ℕ) (regular : Option (ℕ × ℤ)) → s ≢ slot → charge_on after room s regular ≡ charge_on l.element_pages room s regular
  charge_other s room None other = λ k. irregular_charge room (length (other_elements s other k))
  charge_other s room (Some regular) other = λ k. length (other_sheets s other k)

  charge_kept : (container room : ℕ) → ((s : SeriesDef) → at_slot slot l.definitions.series ≡ Some s → s.container ≢ container) → charge_of_container (rewritten slot (pages_of new) sheets l) container room ≡ charge_of_container l container room
  charge_kept container room apart =
      sum_same (charge_of_series after container room) (charge_of_series l.element_pages container room) 0 l.definitions.series
      (λ j s there. elim (cases_eq j slot) [
        | inl same ↦ let f : (s.container == container) ≡ false = not_equal s.container container (apart s (ap (λ (n : ℕ). at_slot n l.definitions.series) (sym same) ∙ there)) in rw f refl
        | inr other ↦
            let more : 0 + j ≢ slot = λ e. other (omega (arith, e)) in
            λ k. if s.container == container then charge_other (0 + j) room s.regular more k else 0
      ])

  rewritten_sound : KeepsQuotaOf slot (rewritten slot (pages_of new) sheets l) → IsSound (rewritten slot (pages_of new) sheets l)
  rewritten_sound kept = record {
    some = subst (λ (n : ℕ). 1 ≤ n) (sym long) r.held.rules.some;
    most = subst (λ (n : ℕ). n ≤ 65536) (sym long) r.held.rules.most;
    definitions = subst (λ (n : ℕ). AreSound n l.definitions) (sym long) r.held.rules.definitions;
    sequences = rewritten_sequences;
    charges = λ k c head there heading. elim (its_container (at_slot slot l.definitions.series) k) [
      | inl own ↦
          let here = kept own.0 c head own.1 (ap (λ (n : ℕ). at_slot n l.definitions.containers) own.2 ∙ there) heading in
          subst (λ (n : ℕ). charge_of_container (rewritten slot (pages_of new) sheets l) n (page_room head.columns) ≤ c.quota) own.2 here
      | inr apart ↦ subst (λ (n : ℕ). n ≤ c.quota) (sym (charge_kept k (page_room head.columns) apart)) (r.held.rules.charges k c head there heading)
    ];
  }

  held_after : (space' : Directory) → space'.lists ≡ set space.lists slot new → KeepsQuotaOf slot (rewritten slot (pages_of new) sheets l) → IsHeldOf l.definitions space' w.count w.free (rewritten slot (pages_of new) sheets l)
  held_after space' lists kept = record {
    definitions = refl;
    size = r.count ∙ r.held.size ∙ ap (λ (n : ℕ). first_element_page + n) (sym long);
    places = lists_after space' lists;
    free = left;
    rules = rewritten_sound kept;
    filled = rewritten_filled;
  }

  -- the catalogue
  series_written : (s : SeriesDef) → series_of (rewritten slot (pages_of new) sheets l) slot s ≡ record (series_of l slot s) { elements = by_stamp (elements_in sheets) }
  series_written s =
      let now : elements_at slot after ≡ by_stamp (elements_in sheets) = sheets_elements shape slot h.columns after sheets laid r.edit.is (sheets_fill shape slot h.columns w.page new sheets r.edit.on) own_sheets in
      λ k. record { container = name_at (λ c. c.name) s.container l.definitions.containers; kind = kind_in l.definitions s.regular; elements = now k }

  series_stays : (j : ℕ) (s : SeriesDef) → j ≢ slot → series_of (rewritten slot (pages_of new) sheets l) j s ≡ series_of l j s
  series_stays j s other =
      let same : elements_at j after ≡ elements_at j l.element_pages = ap by_stamp (other_elements j other) in
      λ k. record { container = name_at (λ c. c.name) s.container l.definitions.containers; kind = kind_in l.definitions s.regular; elements = same k }

  catalogue_after : (s : SeriesDef) → at_slot slot l.definitions.series ≡ Some s
      → catalogue_of (rewritten slot (pages_of new) sheets l) ≡ with_elements_at slot s (by_stamp (elements_in sheets)) l
  catalogue_after s there =
      let table : List (Option SeriesDef) = l.definitions.series in
      let now : by_name (λ s. s.key) (series_of (rewritten slot (pages_of new) sheets l)) table ≡ insert (by_name (λ s. s.key) (series_of l) table) s.key (series_of (rewritten slot (pages_of new) sheets l) slot s) =
      changed (λ s. s.key) (series_of l) (series_of (rewritten slot (pages_of new) sheets l)) table slot s r.held.rules.definitions.tables.series.apart there (λ j b other. series_stays j b other) in
      let whole = now ∙ ap (λ (x : Series). insert (by_name (λ s. s.key) (series_of l) table) s.key x) (series_written s) in
      λ k. record {
        format = l.definitions.format;
        pages = long k;
        row_types = (catalogue_of l).row_types;
        patterns = (catalogue_of l).patterns;
        calendars = (catalogue_of l).calendars;
        containers = (catalogue_of l).containers;
        series = whole k;
      }

pub rewritten_bytes : (l : Layout) (space : Directory) (shape : Shape) (slot : ℕ) (h : Heading) (new : List Place) (sheets : List Sheet) (v w : Contents) → IsRewrittenIn shape slot h space new sheets v w l → HoldsLayout v.page l → HoldsLayout w.page (rewritten slot (pages_of new) sheets l)
rewritten_bytes = bytes_after

pub rewritten_lists : (l : Layout) (space space' : Directory) (shape : Shape) (slot : ℕ) (h : Heading) (new : List Place) (sheets : List Sheet) (v w : Contents) → IsRewrittenIn shape slot h space new sheets v w l → space'.lists ≡ set space.lists slot new
    → ListsPlaces space' (rewritten slot (pages_of new) sheets l)
rewritten_lists l space space' shape slot h new sheets v w r = lists_after l space shape slot h new sheets v w r space'

pub rewritten_held : (l : Layout) (space space' : Directory) (shape : Shape) (slot : ℕ) (h : Heading) (new : List Place) (sheets : List Sheet) (v w : Contents) → IsRewrittenIn shape slot h space new sheets v w l → space'.lists ≡ set space.lists slot new
    → KeepsQuotaOf slot (rewritten slot (pages_of new) sheets l) → IsHeldOf l.definitions space' w.count w.free (rewritten slot (pages_of new) sheets l)
rewritten_held l space space' shape slot h new sheets v w r = held_after l space shape slot h new sheets v w r space'

pub rewritten_catalogue : (l : Layout) (space : Directory) (shape : Shape) (slot : ℕ) (h : Heading) (s : SeriesDef) (new : List Place) (sheets : List Sheet) (v w : Contents) → IsRewrittenIn shape slot h space new sheets v w l → at_slot slot l.definitions.series ≡ Some s
    → catalogue_of (rewritten slot (pages_of new) sheets l) ≡ with_elements_at slot s (by_stamp (elements_in sheets)) l
rewritten_catalogue l space shape slot h s new sheets v w r = catalogue_after l space shape slot h new sheets v w r s
