-- Sheets on a grid in their order: the cells at offsets that they have, and how many pages these are charged.
use Rattle.std.specs.Prelude.{All}
use Rattle.std.proofs.Common.{◌≡◌, ℕ, zero, suc, ◌+◌, ◌-◌, ◌%◌, ◌/◌, ◌<◌, Bool, true, false, cond, not, ◌&&◌, Option, Some, None, IsSome, List, [], ◌∷◌, ◌++◌, length, map, filter, refl, sym, ap, subst, ◌∙◌, arith, ℤ, pos, ◌<ℤ◌, ◌≤ℤ◌}
use Rattle.std.specs.Prelude.{int_lt, slice_get}
use Rattle.std.specs.Option.{option_map}
use Rattle.std.specs.List.{cons_option}
use Rattle.std.proofs.lemmas.Int.{ints}
use Rattle.std.proofs.lemmas.List.Elements.{All-nil, All-head, All-tail, All-append, filter_map-append}
use Rattle.ts_row.specs.Row.{Element}
use Rattle.ts_row.specs.declared.kind.Column.{Column}
use Rattle.ts_space.specs.Charge.{regular_charge}
use Rattle.ts_space.proofs.PlaceLemmas.{int_lt_yes, int_lt_no}
use Rattle.ts_calendar.specs.Calendars.{IsLaid}
use Rattle.ts_offset.specs.Grid.{on_starts, GridPlan, starts_before, starts_of, stamp_of}
use Rattle.ts_offset.specs.declared.shape.Shape.TheVariants.{Regular}
use Rattle.ts_cells.specs.IrregularPage as stamps
use Rattle.ts_regular.specs.RegularPage.{regular_room, OffsetElement, AreRising, elements_from, FillPage}
use Rattle.ts_regular.specs.Places.{OffsetPage, all_in}
use Rattle.ts_regular.proofs.OffsetLemmas.{AreMore, more_both}
use Rattle.ts_regular.proofs.CellsLemmas.{count_in, count_within, more_cells, rising_cells}
use Rattle.ts_regular.proofs.PlaceLemmas.{multiples}
use Rattle.ts_sheets.specs.Charge.{charge_of}
use Rattle.ts_sheets.specs.Stamped.{stamped, HaveStarts}
use Rattle.ts_sheets.proofs.ChargeLemmas.{one_page, cells_on, none_hit}
use Rattle.ts_sheets.proofs.StartLemmas.{stamps_rise}
use Rattle.ts_model.specs.Charge.{offsets_on, elements_charge}
use Rattle.ts_layout.specs.Sheets.{Sheet, FillGridSheet, BeginInOrder, elements_in}
use Rattle.ts_layout.specs.Chains.{by_stamp, grid_sheets}
use Rattle.ts_layout.proofs.StampLemmas.{rising_entries}

-- a page begins below the first of others
abbrev pub BeginsBefore : ℕ → List OffsetPage → Type 0
BeginsBefore base [] = Unit {0}
BeginsBefore base (p ∷ ps) = base < p.0

-- pages with so many cells each, some of them with an element, in the order of their offsets
abbrev pub AreInCells : List Column → List OffsetPage → Type 0
AreInCells columns [] = Unit {0}
AreInCells columns (p ∷ ps) = (p.0 % regular_room columns ≡ 0) × FillPage columns p.1 × BeginsBefore p.0 ps × AreInCells columns ps

-- offsets on the pages behind one are greater than its own
more_behind : (columns : List Column) (n base : ℕ) (ps : List OffsetPage) → base % regular_room columns ≡ 0 → n < base + regular_room columns → BeginsBefore base ps → AreInCells columns ps → AreMore n (all_in ps)
more_behind columns n base [] whole below before are = tt
more_behind columns n base (p ∷ ps) whole below before are =
    let step = multiples (regular_room columns) base p.0 whole are.0 before in
    let above : n < p.0 = omega (arith, below, step) in
    more_both n (elements_from p.0 p.1) (all_in ps) (more_cells n p.0 p.1 above) (more_behind columns n p.0 ps are.0 (omega (arith, above)) are.2 are.3)

pub rising_pages : (columns : List Column) (ps : List OffsetPage) → AreInCells columns ps → AreRising (all_in ps)
rising_pages columns [] are = tt
rising_pages columns (p ∷ ps) are =
    let room = are.1.room in
    rising_cells p.0 p.1 (all_in ps) (λ n below. more_behind columns n p.0 ps are.0 (omega (arith, below, room)) are.2 are.3) (rising_pages columns ps are.3)

-- their elements are charged for as many pages as they are
pub pages_charged : (columns : List Column) (ps : List OffsetPage) → AreInCells columns ps → charge_of columns (all_in ps) ≡ length ps
pages_charged columns [] are = refl
pages_charged columns (p ∷ ps) are =
    let r = regular_room columns in
    let room = are.1.room in
    let some = are.1.some in
    let more_than_none : 0 < r = omega (arith, room, some, count_within p.1) in
    let last = p.0 + r - 1 in
    let is_last : last + 1 ≡ p.0 + r = omega (arith, more_than_none) in
    let more : AreMore last (all_in ps) = more_behind columns last p.0 ps are.0 (omega (arith, is_last)) are.2 are.3 in
    let whole = one_page r (p.0 / r) (elements_from p.0 p.1) (all_in ps) (cells_on r p.0 p.0 p.1 are.0 (omega arith) (omega (arith, room)))
    (omega (arith, some, count_in p.0 p.1)) (none_hit r p.0 last (all_in ps) are.0 more_than_none is_last more) in
    let rest = pages_charged columns ps are.3 in
    whole ∙ omega (arith, rest)

-- sheets on a grid, each filled, that begin in order are such pages
pub record AreOfCells (grid : GridPlan) (columns : List Column) (sheets : List Sheet) : Type 0 where
  pub pages : List OffsetPage
  pub is : sheets ≡ grid_sheets grid pages
  pub starts : HaveStarts grid (all_in pages)
  pub cells : AreInCells columns pages

abbrev begins_first : List Sheet → ℤ
begins_first [] = pos 0
begins_first (sheet ∷ sheets) = sheet.0

before_next : (grid : GridPlan) (base : ℕ) (sheet : Sheet) (sheets : List Sheet) (ps : List OffsetPage) → sheet.0 ≡ pos base → BeginInOrder (sheet ∷ sheets) → sheets ≡ grid_sheets grid ps → BeginsBefore base ps
before_next grid base sheet sheets [] begins order is = tt
before_next grid base sheet [] (p ∷ ps) begins order is = absurd (let long = ap (λ (l : List Sheet). length l) is in omega (arith, long))
before_next grid base sheet (next ∷ sheets) (p ∷ ps) begins order is =
    let same : next.0 ≡ pos p.0 = ap begins_first is in
    let below = order.0 in
    omega (arith, ints, begins, same, below)

in_order_rest : (sheet : Sheet) (sheets : List Sheet) → BeginInOrder (sheet ∷ sheets) → BeginInOrder sheets
in_order_rest sheet [] order = tt
in_order_rest sheet (next ∷ sheets) order = order.1

pub of_cells : (grid : GridPlan) (columns : List Column) (sheets : List Sheet) → BeginInOrder sheets → All (FillGridSheet grid columns) sheets → AreOfCells grid columns sheets
of_cells grid columns [] order fill = record { pages = []; is = refl; starts = All-nil (λ (e : OffsetElement). IsSome (stamp_of grid e.0)); cells = tt }
of_cells grid columns (sheet ∷ sheets) order fill =
    let here = All-head (FillGridSheet grid columns) sheet sheets fill in
    let rest = of_cells grid columns sheets (in_order_rest sheet sheets order) (All-tail (FillGridSheet grid columns) sheet sheets fill) in
    let first : sheet ≡ (pos here.base, stamped grid (elements_from here.base here.cells)) = λ i. (here.on.begins i, here.on.elements i) in
    record {
      pages = (here.base, here.cells) ∷ rest.pages;
      is = λ i. first i ∷ rest.is i;
      starts = All-append (λ (e : OffsetElement). IsSome (stamp_of grid e.0)) (elements_from here.base here.cells) (all_in rest.pages) here.on.starts rest.starts;
      cells = (here.whole, here.fill, before_next grid here.base sheet sheets rest.pages here.on.begins order rest.is, rest.cells);
    }

-- the elements of such sheets are those of the cells, at their stamps
pub stamped_both : (grid : GridPlan) (es fs : List OffsetElement) → stamped grid (es ++ fs) ≡ stamped grid es ++ stamped grid fs
stamped_both grid es fs = filter_map-append (λ (e : OffsetElement). option_map (λ start. (start, e.1)) (stamp_of grid e.0)) es fs

pub grid_elements : (grid : GridPlan) (ps : List OffsetPage) → elements_in (grid_sheets grid ps) ≡ stamped grid (all_in ps)
grid_elements grid [] = refl
grid_elements grid (p ∷ ps) = ap (λ (l : List Element). stamped grid (elements_from p.0 p.1) ++ l) (grid_elements grid ps) ∙ sym (stamped_both grid (elements_from p.0 p.1) (all_in ps))

some_start : (o : Option ℤ) → IsSome o → (t : ℤ) × (o ≡ Some t)
some_start (Some t) some = (t, refl)
some_start None some = absurd (cc)

-- one element at its stamp, and others
stamped_one_more : (grid : GridPlan) (e : OffsetElement) (s : ℤ) (es : List OffsetElement) → stamp_of grid e.0 ≡ Some s → stamped grid (e ∷ es) ≡ (s, e.1) ∷ stamped grid es
stamped_one_more grid e s es is = ap (λ (o : Option ℤ). cons_option (option_map (λ start. (start, e.1)) o) (stamped grid es)) is

first_start : (grid : GridPlan) (e : OffsetElement) (es : List OffsetElement) → HaveStarts grid (e ∷ es) → (s : ℤ) × (stamp_of grid e.0 ≡ Some s)
first_start grid e es starts = some_start (stamp_of grid e.0) (All-head (λ (x : OffsetElement). IsSome (stamp_of grid x.0)) e es starts)

other_starts : (grid : GridPlan) (e : OffsetElement) (es : List OffsetElement) → HaveStarts grid (e ∷ es) → HaveStarts grid es
other_starts grid e es starts = All-tail (λ (x : OffsetElement). IsSome (stamp_of grid x.0)) e es starts

-- elements at rising offsets have rising stamps
pub rising_stamped : (grid : GridPlan) (es : List OffsetElement) → IsLaid grid.calendar → HaveStarts grid es → AreRising es → stamps.AreRising (stamped grid es)
rising_stamped grid [] laid starts rising = tt
rising_stamped grid (e ∷ []) laid starts rising =
    let s = first_start grid e [] starts in
    subst stamps.AreRising (sym (stamped_one_more grid e s.0 [] s.1)) tt
rising_stamped grid (e ∷ f ∷ es) laid starts rising =
    let s = first_start grid e (f ∷ es) starts in
    let behind = other_starts grid e (f ∷ es) starts in
    let t = first_start grid f es behind in
    let up = stamps_rise grid laid e.0 f.0 s.0 t.0 rising.0 s.1 t.1 in
    let rest = subst stamps.AreRising (stamped_one_more grid f t.0 es t.1) (rising_stamped grid (f ∷ es) laid behind rising.1) in
    subst stamps.AreRising (sym (stamped_one_more grid e s.0 (f ∷ es) s.1 ∙ ap (λ (l : List Element). (s.0, e.1) ∷ l) (stamped_one_more grid f t.0 es t.1))) (up, rest)

-- how many of rising stamps come before one of them: its index
abbrev DoRise : List ℤ → Type 0
DoRise xs = (m n : ℕ) (s t : ℤ) → m < n → slice_get xs m ≡ Some s → slice_get xs n ≡ Some t → s <ℤ t

none_below : (s : ℤ) (xs : List ℤ) → ((n : ℕ) (t : ℤ) → slice_get xs n ≡ Some t → s ≤ℤ t) → length (filter (λ x. int_lt x s) xs) ≡ 0
none_below s [] high = refl
none_below s (x ∷ xs) high =
    ap (λ (b : Bool). length (cond b (x ∷ filter (λ y. int_lt y s) xs) (filter (λ y. int_lt y s) xs))) (int_lt_no x s (high 0 x refl))
    ∙ none_below s xs (λ n t is. high (suc n) t is)

same_number : (x s : ℤ) → ◌≡◌ {A = Option ℤ} (Some x) (Some s) → x ≡ s
same_number x s is = cc

count_below : (xs : List ℤ) (n : ℕ) (s : ℤ) → DoRise xs → slice_get xs n ≡ Some s → length (filter (λ x. int_lt x s) xs) ≡ n
count_below [] n s rise is = absurd (cc)
count_below (x ∷ xs) zero s rise is =
    let same = same_number x s is in
    none_below s (x ∷ xs) (at_least same)
  where
    at_least : x ≡ s → (n : ℕ) (t : ℤ) → slice_get (x ∷ xs) n ≡ Some t → s ≤ℤ t
    at_least same zero t there = let here = same_number x t there in omega (arith, ints, same, here)
    at_least same (suc n) t there = let up = rise 0 (suc n) x t (omega arith) refl there in omega (arith, ints, same, up)
count_below (x ∷ xs) (suc n) s rise is =
    let up = rise 0 (suc n) x s (omega arith) refl is in
    let rest = count_below xs n s (λ i j a b below first second. rise (suc i) (suc j) a b (omega (arith, below)) first second) is in
    ap (λ (b : Bool). length (cond b (x ∷ filter (λ y. int_lt y s) xs) (filter (λ y. int_lt y s) xs))) (int_lt_yes x s up) ∙ ap suc rest

-- two tests, one after the other
filter_both : (p q : ℤ → Bool) (xs : List ℤ) → filter (λ x. p x && q x) xs ≡ filter q (filter p xs)
filter_both p q [] = refl
filter_both p q (x ∷ xs) =
    let rest = filter_both p q xs in
    elim (p x) as (λ (b : Bool). cond (b && q x) (x ∷ filter (λ y. p y && q y) xs) (filter (λ y. p y && q y) xs) ≡ filter q (cond b (x ∷ filter p xs) (filter p xs))) [
      | true ↦ ap (λ (l : List ℤ). cond (q x) (x ∷ l) l) rest
      | false ↦ rest
    ]

-- as many on starts come before that of an offset
pub starts_counted : (grid : GridPlan) (n : ℕ) (s : ℤ) → IsLaid grid.calendar → stamp_of grid n ≡ Some s → starts_before grid s ≡ n
starts_counted grid n s laid is =
    ap (λ (l : List ℤ). length l) (filter_both (λ x. not (int_lt x grid.origin)) (λ x. int_lt x s) (on_starts grid.calendar))
    ∙ count_below (starts_of grid) n s (λ i j a b below first second. stamps_rise grid laid i j a b below first second) is

offsets_again : (grid : GridPlan) (es : List OffsetElement) → IsLaid grid.calendar → HaveStarts grid es → map (λ e. starts_before grid e.0) (stamped grid es) ≡ map (λ e. e.0) es
offsets_again grid [] laid starts = refl
offsets_again grid (e ∷ es) laid starts =
    let s = first_start grid e es starts in
    let here = starts_counted grid e.0 s.0 laid s.1 in
    let rest = offsets_again grid es laid (other_starts grid e es starts) in
    ap (map (λ (x : Element). starts_before grid x.0)) (stamped_one_more grid e s.0 es s.1) ∙ (λ i. here i ∷ rest i)

-- elements at stamps of a grid are charged by the offsets of these
pub offsets_charged : (grid : GridPlan) (columns : List Column) (es : List OffsetElement) → IsLaid grid.calendar → HaveStarts grid es → AreRising es → elements_charge columns (Regular grid) (by_stamp (stamped grid es)) ≡ charge_of columns es
offsets_charged grid columns es laid starts rising =
    let same : offsets_on grid (by_stamp (stamped grid es)) ≡ map (λ e. e.0) es =
    ap (map (λ (e : Element). starts_before grid e.0)) (rising_entries (stamped grid es) (rising_stamped grid es laid starts rising)) ∙ offsets_again grid es laid starts in
    ap (regular_charge (regular_room columns)) same
