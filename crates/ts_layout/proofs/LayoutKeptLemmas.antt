-- The places and the free pages of a layout are apart, and are all its pages.
use Rattle.std.specs.Prelude.{All, AllPairs}
use Rattle.std.proofs.Common.{◌≡◌, ◌≢◌, ℕ, zero, suc, ◌+◌, ◌-◌, ◌<◌, ◌≤◌, ◌==◌, Bool, true, false, if◌then◌else◌, Option, Some, None, List, [], ◌∷◌, ◌++◌, length, get_or, replicate, refl, sym, ap, subst, ◌∙◌, arith, lit≤}
use Rattle.std.specs.List.{flat_map}
use Rattle.std.proofs.lemmas.List.{length-replicate, length-map, map-append}
use Rattle.std.proofs.lemmas.List.Elements.{All-nil, All-cons, All-append, All-map, All-weaker, All-contains}
use Rattle.std.proofs.lemmas.List.Sorted.{IsPermutation-sym, IsPermutation-map}
use Rattle.ts_row.specs.declared.kind.Column.{Column}
use Rattle.ts_space.specs.declared.place.Place.{Place}
use Rattle.ts_space.specs.Place.{pages_of}
use Rattle.ts_space.specs.Directory.{Directory, places_of}
use Rattle.ts_cells.specs.IrregularPage.{page_room}
use Rattle.ts_row.specs.Row.{Element}
use Rattle.ts_page.specs.Pages.{first_element_page}
use Rattle.ts_regular.specs.RegularPage.{elements_from, filled_count}
use Rattle.ts_regular.proofs.CellsLemmas.{count_in, count_within}
use Rattle.ts_offset.specs.declared.shape.Shape.{Shape}
use Rattle.ts_offset.specs.declared.shape.Shape.TheVariants.{Irregular, Regular}
use Rattle.ts_model.specs.Definitions.{Definitions, SeriesDef}
use Rattle.ts_layout.specs.Sheets.{Sheet, FillSheet, room_of, place_of_sheet}
use Rattle.ts_layout.specs.Meaning.{ElementPage, Free, Cells, Layout, element_page, AreSound, IsSound, sum_filled, charge_of_series}
use Rattle.ts_layout.specs.Surveyed.{places_on, places_from, free_pages, ListsPlaces}
use Rattle.ts_layout.specs.Changed.{HasNoPage}
use Rattle.ts_layout.specs.Chains.{AreFilled, bare}
use Rattle.ts_layout.specs.Placed.{used_pages, ArePlaced, AreKept}
use Rattle.ts_layout.proofs.PageLemmas.{free_cells}
use Rattle.ts_layout.proofs.PermutedLemmas.{pairs_permuted, pairs_none, pairs_short, pairs_join}
use Rattle.ts_layout.proofs.ChainCountLemmas.{IsPlaceAt, places_each, its_places}
use Rattle.ts_layout.proofs.FreeLemmas.{free_counted}
use Rattle.ts_layout.proofs.FreeListLemmas.{free_at, free_different}
use Rattle.ts_layout.proofs.ValueLemmas.{no_sequence_in, no_series_charge}
use Rattle.ts_layout.proofs.QuotaLemmas.{listed_quotas}
use Rattle.ts_layout.proofs.PlacedLemmas.{different_turned}
use Rattle.ts_layout.proofs.SheetLemmas.{length-stamped}

-- the pages of one series are different ones
on_page : (slot first : ℕ) (e : ElementPage) → All (λ (p : Place). p.page ≡ first) (places_on slot first e) × (length (places_on slot first e) ≤ 1)
on_page slot first Free = (All-nil (λ (p : Place). p.page ≡ first), lit≤ tt)
on_page slot first (Cells s sheet) = of_test (s == slot) where
  of_test : (b : Bool) → All (λ (p : Place). p.page ≡ first) (if b then place_of_sheet first sheet ∷ [] else []) × (length (if b then place_of_sheet first sheet ∷ [] else []) ≤ 1)
  of_test true = (All-cons (λ (p : Place). p.page ≡ first) (place_of_sheet first sheet) [] refl (All-nil (λ (p : Place). p.page ≡ first)), lit≤ tt)
  of_test false = (All-nil (λ (p : Place). p.page ≡ first), lit≤ tt)

pages_differ : (slot first : ℕ) (pages : List ElementPage) → AllPairs (λ a b. a ≢ b) (pages_of (places_from slot first pages))
pages_differ slot first [] = pairs_none (λ (a b : ℕ). a ≢ b)
pages_differ slot first (e ∷ pages) =
    let R : ℕ → ℕ → Type 0 = λ a b. a ≢ b in
    let here : List Place = places_on slot first e in
    let rest : List Place = places_from slot (suc first) pages in
    let on = on_page slot first e in
    let long = length-map here (λ (p : Place). p.page) in
    let short : length (pages_of here) ≤ 1 = let few = on.1 in omega (arith, long, few) in
    let own : All (λ (n : ℕ). n ≡ first) (pages_of here) = All-map (λ (n : ℕ). n ≡ first) (λ (p : Place). p.page) here on.0 in
    let later : All (λ (n : ℕ). suc first ≤ n) (pages_of rest) =
    All-map (λ (n : ℕ). suc first ≤ n) (λ (p : Place). p.page) rest (All-weaker (IsPlaceAt slot (suc first) pages) (λ (p : Place). suc first ≤ p.page) (λ p at. let number = at.page in omega (arith, number)) rest (places_each slot (suc first) pages)) in
    subst (λ (l : List ℕ). AllPairs R l) (sym (map-append (λ (p : Place). p.page) here rest))
    (pairs_join R (pages_of here) (pages_of rest) (pairs_short R (pages_of here) short) (pages_differ slot (suc first) pages) (λ x y among behind.
    apart x y first (All-contains (λ (n : ℕ). n ≡ first) (pages_of here) x own among) (All-contains (λ (n : ℕ). suc first ≤ n) (pages_of rest) y later behind)))
  where
    apart : (x y first : ℕ) → x ≡ first → suc first ≤ y → x ≢ y
    apart x y first is above same = absurd (omega (arith, is, above, same))

-- pages that belong to one series each
module _ (owner : ℕ → ℕ) where
  used_apart : (first : ℕ) (lists : List (List Place)) → ((j : ℕ) → j < length lists → AllPairs (λ a b. a ≢ b) (pages_of (get_or lists j [])) × All (λ n. owner n ≡ first + j) (pages_of (get_or lists j [])))
      → AllPairs (λ a b. a ≢ b) (flat_map pages_of lists) × All (λ n. first ≤ owner n) (flat_map pages_of lists)
  used_apart first [] each = (pairs_none (λ (a b : ℕ). a ≢ b), All-nil (λ (n : ℕ). first ≤ owner n))
  used_apart first (ps ∷ lists) each =
      let here = each 0 (omega arith) in
      let own : All (λ (n : ℕ). owner n ≡ first) (pages_of ps) = All-weaker (λ (n : ℕ). owner n ≡ first + 0) (λ (n : ℕ). owner n ≡ first) (λ n is. omega (arith, is)) (pages_of ps) here.1 in
      let rest = used_apart (suc first) lists (λ j within.
      let one = each (suc j) (omega (arith, within)) in
      (one.0, All-weaker (λ (n : ℕ). owner n ≡ first + suc j) (λ (n : ℕ). owner n ≡ suc first + j) (λ n is. omega (arith, is)) (pages_of (get_or lists j [])) one.1)) in (
        pairs_join (λ (a b : ℕ). a ≢ b) (pages_of ps) (flat_map pages_of lists) here.0 rest.0 (λ x y among behind.
            apart x y first (All-contains (λ (n : ℕ). owner n ≡ first) (pages_of ps) x own among) (All-contains (λ (n : ℕ). suc first ≤ owner n) (flat_map pages_of lists) y rest.1 behind)),
        All-append (λ (n : ℕ). first ≤ owner n) (pages_of ps) (flat_map pages_of lists) (All-weaker (λ (n : ℕ). owner n ≡ first) (λ (n : ℕ). first ≤ owner n) (λ n is. omega (arith, is)) (pages_of ps) own)
            (All-weaker (λ (n : ℕ). suc first ≤ owner n) (λ (n : ℕ). first ≤ owner n) (λ n above. omega (arith, above)) (flat_map pages_of lists) rest.1),
      )
    where
      apart : (x y first : ℕ) → owner x ≡ first → suc first ≤ owner y → x ≢ y
      apart x y first is above same = let one = ap owner same in absurd (omega (arith, is, above, one))

-- the series that a page belongs to, and whether it belongs to one
abbrev owner_of : ElementPage → ℕ
owner_of Free = 0
owner_of (Cells s sheet) = s

abbrev IsOwned : ElementPage → Type 0
IsOwned Free = ⊥
IsOwned (Cells s sheet) = Unit {0}

page_there : (slot : ℕ) (pages : List ElementPage) (p : Place) (at : IsPlaceAt slot first_element_page pages p) → element_page (p.page - first_element_page) pages ≡ Cells slot at.sheet
page_there slot pages p at = let number : p.page - first_element_page ≡ at.number = omega (arith, at.page) in ap (λ (n : ℕ). element_page n pages) number ∙ at.is

-- the places and the free pages of a layout
module _ (l : Layout) (space : Directory) (lists : ListsPlaces space l) (slots : length space.lists ≡ 4096) where
  one_list : (slot : ℕ) → slot < 4096 → AllPairs (λ a b. a ≢ b) (pages_of (places_of slot space)) × All (λ n. owner_of (element_page (n - first_element_page) l.element_pages) ≡ slot) (pages_of (places_of slot space))
  one_list slot within = (
    pairs_permuted (λ (a b : ℕ). a ≢ b) different_turned (pages_of (places_from slot first_element_page l.element_pages)) (pages_of (places_of slot space))
        (IsPermutation-map (λ (p : Place). p.page) _ _ (IsPermutation-sym (places_of slot space) (places_from slot first_element_page l.element_pages) (lists slot within).all)) (pages_differ slot first_element_page l.element_pages),
    All-map (λ (n : ℕ). owner_of (element_page (n - first_element_page) l.element_pages) ≡ slot) (λ (p : Place). p.page) (places_of slot space)
        (All-weaker (IsPlaceAt slot first_element_page l.element_pages) (λ (p : Place). owner_of (element_page (p.page - first_element_page) l.element_pages) ≡ slot) (λ p at. ap owner_of (page_there slot l.element_pages p at)) (places_of slot space) (its_places l space slot lists within)),
  )

  pub used_different : AllPairs (λ a b. a ≢ b) (used_pages space)
  used_different =
      (used_apart (λ n. owner_of (element_page (n - first_element_page) l.element_pages)) 0 space.lists (λ j within.
      let one = one_list j (omega (arith, within, slots)) in
      let at : j ≡ 0 + j = omega arith in
      (one.0, subst (λ (k : ℕ). All (λ (n : ℕ). owner_of (element_page (n - first_element_page) l.element_pages) ≡ k) (pages_of (places_of j space))) at one.1))).0

  owned_in : (first : ℕ) (ls : List (List Place)) → ((j : ℕ) → j < length ls → All (λ n. IsOwned (element_page (n - first_element_page) l.element_pages)) (pages_of (get_or ls j []))) → All (λ n. IsOwned (element_page (n - first_element_page) l.element_pages)) (flat_map pages_of ls)
  owned_in first [] each = All-nil (λ (n : ℕ). IsOwned (element_page (n - first_element_page) l.element_pages))
  owned_in first (ps ∷ ls) each =
      All-append (λ (n : ℕ). IsOwned (element_page (n - first_element_page) l.element_pages)) (pages_of ps) (flat_map pages_of ls) (each 0 (omega arith)) (owned_in (suc first) ls (λ j within. each (suc j) (omega (arith, within))))

  used_owned : All (λ n. IsOwned (element_page (n - first_element_page) l.element_pages)) (used_pages space)
  used_owned = owned_in 0 space.lists (λ j within.
      let small : j < 4096 = omega (arith, within, slots) in
      All-map (λ (n : ℕ). IsOwned (element_page (n - first_element_page) l.element_pages)) (λ (p : Place). p.page) (places_of j space)
      (All-weaker (IsPlaceAt j first_element_page l.element_pages) (λ (p : Place). IsOwned (element_page (p.page - first_element_page) l.element_pages)) (λ p at. subst IsOwned (sym (page_there j l.element_pages p at)) tt) (places_of j space) (its_places l space j lists small)))

  free_unowned : All (λ n. element_page (n - first_element_page) l.element_pages ≡ Free) (free_pages l)
  free_unowned k e within =
      let at = free_at first_element_page l.element_pages k e within in
      let number : get_or (free_pages l) k e - first_element_page ≡ at.0 = let is = at.2 in omega (arith, is) in
      ap (λ (n : ℕ). element_page n l.element_pages) number ∙ at.3

  pub all_different : AllPairs (λ a b. a ≢ b) (free_pages l ++ used_pages space)
  all_different =
      pairs_join (λ (a b : ℕ). a ≢ b) (free_pages l) (used_pages space) (free_different first_element_page l.element_pages) used_different (λ x y free used same.
      let unowned = All-contains (λ (n : ℕ). element_page (n - first_element_page) l.element_pages ≡ Free) (free_pages l) x free_unowned free in
      let owned = All-contains (λ (n : ℕ). IsOwned (element_page (n - first_element_page) l.element_pages)) (used_pages space) y used_owned used in
      subst IsOwned (ap (λ (n : ℕ). element_page (n - first_element_page) l.element_pages) (sym same) ∙ unowned) owned)

-- a sheet that fills a page has some elements, and no more than there is room for
pub sheet_counted : (shape : Shape) (columns : List Column) (sheet : Sheet) → FillSheet shape columns sheet → (1 ≤ length sheet.1) × (length sheet.1 ≤ room_of shape columns)
sheet_counted Irregular columns sheet fill = (fill.0.some, fill.0.room)
sheet_counted (Regular grid) columns sheet fill =
    let count : length sheet.1 ≡ filled_count fill.cells =
    ap (λ (es : List Element). length es) fill.on.elements ∙ length-stamped grid (elements_from fill.base fill.cells) fill.on.starts ∙ count_in fill.base fill.cells in
    (omega (arith, count, fill.fill.some), omega (arith, count, count_within fill.cells, fill.fill.room))

pub placed_in : (l : Layout) (space : Directory) (free : List ℕ) (count : ℕ) → IsSound l → AreFilled l → ListsPlaces space l → length space.lists ≡ 4096 → free ≡ free_pages l → count ≡ first_element_page + length l.element_pages → ArePlaced l.definitions space free count
placed_in l space free count sound filled lists slots frees size = subst (λ (ns : List ℕ). ArePlaced l.definitions space ns count) (sym frees) (record {
  slots = slots;
  rising = λ slot within. (lists slot within).rising;
  places = λ slot within k e inside.
      let at = its_places l space slot lists within k e inside in
      let fill = filled at.number slot at.sheet at.is in
      let counted = sheet_counted fill.shape fill.heading.columns at.sheet fill.fill in
      let many : (get_or (places_of slot space) k e).count ≡ length at.sheet.1 = ap (λ (p : Place). p.count) at.tells in
      record {
        element = let number = at.page in omega (arith, number);
        below = let number = at.page in let below = at.within in omega (arith, number, below, size);
        some = let some = counted.0 in omega (arith, many, some);
        heading = fill.heading;
        shape = fill.shape;
        columns = fill.columns;
        lies = fill.lies;
        room = let most = counted.1 in omega (arith, many, most);
      };
  numbers = λ k e within.
      let at = free_at first_element_page l.element_pages k e within in
      let below = at.1 in
      let number = at.2 in
      (omega (arith, number), omega (arith, number, below, size));
  different = all_different l space lists slots;
  all = let counted = free_counted l space sound.definitions.tables filled lists slots in omega (arith, counted, size);
})

pub kept_in : (l : Layout) (space : Directory) (free : List ℕ) (count : ℕ) → IsSound l → AreFilled l → ListsPlaces space l → length space.lists ≡ 4096 → free ≡ free_pages l → count ≡ first_element_page + length l.element_pages → AreKept l.definitions space free count
kept_in l space free count sound filled lists slots frees size =
    let pages : length l.element_pages ≡ count - first_element_page = omega (arith, size) in
    record {
      some = omega (arith, size, sound.some);
      most = omega (arith, size, sound.most);
      sound = subst (λ (n : ℕ). AreSound n l.definitions) pages sound.definitions;
      placed = placed_in l space free count sound filled lists slots frees size;
      quotas = listed_quotas l space sound lists;
    }

-- a layout without elements
no_cells : (pages i slot : ℕ) (sheet : Sheet) → element_page i (replicate pages Free) ≡ Cells slot sheet → ⊥
no_cells zero i slot sheet is = free_cells slot sheet is
no_cells (suc pages) zero slot sheet is = free_cells slot sheet is
no_cells (suc pages) (suc i) slot sheet is = no_cells pages i slot sheet is

no_page : (pages slot : ℕ) → HasNoPage slot (replicate pages Free)
no_page pages slot i sheet is = no_cells pages i slot sheet is

no_charges : (pages container room first : ℕ) (table : List (Option SeriesDef)) → sum_filled (charge_of_series (replicate pages Free) container room) first table ≡ 0
no_charges pages container room first [] = refl
no_charges pages container room first (None ∷ table) = no_charges pages container room (suc first) table
no_charges pages container room first (Some s ∷ table) =
    let here = no_series_charge (replicate pages Free) container room first s (no_page pages first) in
    let rest = no_charges pages container room (suc first) table in
    omega (arith, here, rest)

pub bare_filled : (pages : ℕ) (d : Definitions) → AreFilled (bare pages d)
bare_filled pages d i slot sheet is = absurd (no_cells pages i slot sheet is)

pub bare_size : (count : ℕ) (d : Definitions) → first_element_page ≤ count → count ≡ first_element_page + length (bare (count - first_element_page) d).element_pages
bare_size count d some = let size : length (replicate (count - first_element_page) Free) ≡ count - first_element_page = length-replicate (count - first_element_page) Free in omega (arith, size, some)

pub bare_sound : (pages : ℕ) (d : Definitions) → 1 ≤ pages → pages ≤ 65536 → AreSound pages d → IsSound (bare pages d)
bare_sound pages d some most sound =
    let size : length (replicate pages Free) ≡ pages = length-replicate pages Free in
    record {
      some = omega (arith, size, some);
      most = omega (arith, size, most);
      definitions = subst (λ (n : ℕ). AreSound n d) (sym size) sound;
      sequences = λ slot h shape heading lies. no_sequence_in shape slot h.columns (replicate pages Free) (no_page pages slot);
      charges = λ i c h there heading. let none = no_charges pages i (page_room h.columns) 0 d.series in omega (arith, none);
    }
