-- What an edit of one page does to that page, to the others, and to those that can be taken.
use Rattle.std.proofs.Common.{◌≡◌, ◌≢◌, ℕ, zero, suc, ◌+◌, ◌-◌, ◌*◌, ◌%◌, ◌<◌, ◌≤◌, ◌^◌, ◌==◌, All, AllPairs, Bool, true, false, IsTrue, Some, None, IsSome, Result, Ok, Err, OnErr, List, [], ◌∷◌, ◌++◌, length, drop, replicate, refl, sym, ap, subst, ◌∙◌, inl, inr, arith, ℤ, pos}
use Rattle.std.specs.Prelude.{Contains, slice_set}
use Rattle.std.specs.Option.{option_map}
use Rattle.std.proofs.lemmas.Bool.Decides.{nat_tests}
use Rattle.std.proofs.lemmas.Int.{ints}
use Rattle.std.proofs.lemmas.List.{drop-replicate, length-replicate, replicate-append-replicate}
use Rattle.std.proofs.lemmas.List.Concat.{flat_map-cons}
use Rattle.std.proofs.lemmas.List.Elements.{All-cons, All-nil}
use Rattle.std.proofs.Math.ListN.{length-set}
use Rattle.ts_space.specs.declared.place.Place.{Place}
use Rattle.ts_page.specs.Pages.{zero_page, Contents, EqualPages, with_page, Got, Put, Taken, IsElementPage, IsLawful, IsListed, first_element_page}
use Rattle.ts_row.specs.declared.kind.Column.{Column}
use Rattle.ts_row.specs.Row.{width_of, Row, fits, marked}
use Rattle.ts_regular.specs.RegularPage.{Cell, FitsCell, cell_bytes, cell_size, regular_room, AreCells, IsRegularPage, cells_bytes, behind_head, filled_count, regular_page}
use Rattle.ts_regular.specs.Places.{OffsetPage, IsOn, IsCounted, IsPlace, ArePlaces}
use Rattle.ts_regular.specs.OnePage.{cell_at, with_row, with_mark, no_cells, IsToldOn, KeepsOthers, IsEditedOn, IsPutAlone}
use Rattle.ts_regular.specs.Call.{Stays, AreLeft}
use Rattle.ts_regular.proofs.BytesLemmas.{some_row, cells_fit}
use Rattle.ts_regular.proofs.CellsLemmas.{count_over}

-- the page under a number that was changed, and one under another
pub changed_page : (n : ℕ) (bytes : List ℕ) (pages : ℕ → List ℕ) → with_page n bytes pages n ≡ bytes
changed_page n bytes pages = let same : (n == n) ≡ true = grind (arith, nat_tests) in rw same refl

pub other_page : (n m : ℕ) (bytes : List ℕ) (pages : ℕ → List ℕ) → m ≢ n → with_page n bytes pages m ≡ pages m
other_page n m bytes pages other = let no_one : (n == m) ≡ false = grind (arith, nat_tests) in rw no_one refl

-- other rows in cells
pub cells_set : (columns : List Column) (i : ℕ) (new : Cell) (cells : List Cell) → FitsCell columns new → AreCells columns cells → AreCells columns (slice_set cells i new)
cells_set columns i new [] fit are = are
cells_set columns zero new (cell ∷ cells) fit are = (fit, are.1)
cells_set columns (suc i) new (cell ∷ cells) fit are = (are.0, cells_set columns i new cells fit are.1)

-- what was read of the page of a place
pub read_on : (tells : Bool) (slot : ℕ) (columns : List Column) (place : Place) (bytes : List ℕ) (v w : Contents) → IsElementPage place.page → Got tells place.page bytes (Ok tt) v w → IsToldOn tells slot columns place v (IsOn slot columns bytes place)
read_on tells slot columns place bytes v w element got t p on =
    let page : bytes ≡ v.page place.page = got.read t (inr (omega (arith, element))) in
    subst (λ (b : List ℕ). IsOn slot columns b place p) (sym page) on

-- nothing changed
pub same_pages : (tells : Bool) (number : ℕ) (bytes : List ℕ) (v w : Contents) → Got tells number bytes (Ok tt) v w → Stays tells v w
same_pages tells number bytes v w got = record { free = got.free; pages = got.pages }

-- a page was read and then put
module _ (tells : Bool) (slot : ℕ) (columns : List Column) (place : Place) (read bytes : List ℕ) (v u w : Contents) (element : IsElementPage place.page)
    (got_pages : IsTrue tells → EqualPages v.page u.page) (got_free : u.free ≡ v.free) (put : Put tells place.page bytes (Ok tt) u w) where
  pub kept_others : KeepsOthers tells place.page v w
  kept_others t other not = put.put t other ∙ other_page place.page other bytes u.page not ∙ got_pages t other

  pub new_page : IsTrue tells → w.page place.page ≡ bytes
  new_page t = put.put t place.page ∙ changed_page place.page bytes u.page

  pub edited_on : (new : Place) (edit : List Cell → List Cell) → new.page ≡ place.page → new.at ≡ place.at → IsCounted columns new
      → IsToldOn tells slot columns place v (λ p. AreCells columns (edit p.1) × (length (edit p.1) ≡ regular_room columns) × (filled_count (edit p.1) ≡ new.count) × (bytes ≡ regular_page slot columns p.0 (edit p.1)))
      → IsEditedOn tells slot columns edit place new v w
  edited_on new edit number at counted told = record {
    free = put.free ∙ got_free;
    number = number;
    at = at;
    counted = counted;
    on = λ t p on.
        let made = told t p on in
        let some = counted.some in
        record {
          bytes = record {
            number = on.bytes.number;
            begins = on.bytes.begins;
            whole = on.bytes.whole;
            fill = record { each = made.0; room = made.1; some = omega (arith, made.2, some) };
            bytes = new_page t ∙ made.3;
          };
          count = made.2;
          at = at ∙ on.at;
        };
    others = kept_others;
  }

-- a page that fails to be put or freed
pub left_after : (tells : Bool) (v u w : Contents) → (IsTrue tells → EqualPages v.page u.page) → u.free ≡ v.free → (IsTrue tells → EqualPages u.page w.page) → w.free ≡ u.free → AreLeft tells v w
left_after tells v u w first one second two = record { pages = λ t n. second t n ∙ first t n; free = inl (two ∙ one) }

pub on_any_err : {T E P : Type 0} (r : Result T E) → P → OnErr r P
on_any_err (Ok x) p = tt
on_any_err (Err e) p = p

-- cells without elements, and the zeros that they are
pub no_room : (columns : List Column) (n : ℕ) → AreCells columns (replicate n None)
no_room columns zero = tt
no_room columns (suc n) = (tt, no_room columns n)

pub no_count : (n : ℕ) → filled_count (replicate n None) ≡ 0
no_count zero = refl
no_count (suc n) = no_count n

no_bytes : (columns : List Column) (n : ℕ) → cells_bytes columns (replicate n None) ≡ replicate (cell_size columns * n) 0
no_bytes columns zero = ap (λ (m : ℕ). replicate m 0) (let none : 0 ≡ cell_size columns * 0 = omega arith in none)
no_bytes columns (suc n) =
    let one : suc (width_of columns) ≡ cell_size columns = omega arith in
    let more : cell_size columns + cell_size columns * n ≡ cell_size columns * suc n = grind arith in
    flat_map-cons (cell_bytes columns) None (replicate n None)
    ∙ (λ j. replicate (one j) 0 ++ no_bytes columns n j)
    ∙ replicate-append-replicate (cell_size columns) (cell_size columns * n) 0 ∙ ap (λ (m : ℕ). replicate m 0) more

pub behind_zeros : (columns : List Column) → drop 32 zero_page ≡ behind_head columns (no_cells columns)
unfolding zero_page
behind_zeros columns =
    let n : ℕ = regular_room columns in
    let fit = cells_fit columns n (omega arith) in
    let size : length (no_cells columns) ≡ n = length-replicate n None in
    let zeros : 4064 ≡ cell_size columns * n + (4064 - cell_size columns * length (no_cells columns)) = omega (arith, fit, ap (λ (m : ℕ). cell_size columns * m) size) in
    drop-replicate 32 4096 0 ∙ ap (λ (m : ℕ). replicate m 0) zeros
    ∙ sym (replicate-append-replicate (cell_size columns * n) (4064 - cell_size columns * length (no_cells columns)) 0)
    ∙ ap (λ (l : List ℕ). l ++ replicate (4064 - cell_size columns * length (no_cells columns)) 0) (sym (no_bytes columns n))

-- a page that is taken can be put
pub taken_element : (tells : Bool) (number : ℕ) (v w : Contents) → IsLawful tells v → Taken tells number v w → (first_element_page ≤ number) × (number < w.count) × (Contains w.free number → ⊥)
taken_element tells number v w lawful taken =
    let listed = subst (λ (l : List ℕ). All (IsListed tells v) l) taken.listed lawful.listed in
    let different = subst (λ (l : List ℕ). AllPairs (λ a b. a ≢ b) l) taken.listed lawful.different in
    let first = listed 0 0 (omega arith) in
    (first.element, omega (arith, first.below, taken.count), λ has. different 0 (suc has.0) number (omega arith) (omega (arith, has.1)) (sym has.2))

-- one number
pub pos_one : (a b : ℕ) (z : ℤ) → z ≡ pos a → z ≡ pos b → a ≡ b
pos_one a b z one two = omega (arith, ints, one, two)

-- the page of a place whose first cell has this offset
pub page_from : (slot : ℕ) (columns : List Column) (base : ℕ) (bytes : List ℕ) (place : Place) (p : OffsetPage) → place.at ≡ pos base → IsOn slot columns bytes place p → IsRegularPage slot columns base p.1 bytes
page_from slot columns base bytes place p begins on = subst (λ (b : ℕ). IsRegularPage slot columns b p.1 bytes) (pos_one p.0 base place.at on.at begins) on.bytes

-- the same cells with another one's row hidden or visible
pub mark_fits : (columns : List Column) (hidden : Bool) (cell : Cell) → FitsCell columns cell → FitsCell columns (option_map (marked hidden) cell)
mark_fits columns hidden None fit = tt
mark_fits columns hidden (Some row) fit = fit

pub mark_count : (i : ℕ) (hidden : Bool) (cells : List Cell) → i < length cells → IsSome (cell_at cells i) → filled_count (with_mark i hidden cells) ≡ filled_count cells
mark_count i hidden cells within some =
    let r = some_row (cell_at cells i) some in
    ap (λ (c : Cell). filled_count (slice_set cells i (option_map (marked hidden) c))) r.1 ∙ count_over i (marked hidden r.0) cells within some

-- a first element on a page that was taken
pub alone_on : (tells : Bool) (slot : ℕ) (columns : List Column) (base index number count : ℕ) (row : Row) (at : ℤ) (bytes : List ℕ) (v u w : Contents) → slot < 2 ^ 16 → base < 2 ^ 64 → base % regular_room columns ≡ 0 → IsTrue (fits columns row) → at ≡ pos base → 1 ≤ count → count ≤ 1
    → Taken tells number v u → Put tells number bytes (Ok tt) u w → (filled_count (with_row index row (no_cells columns)) ≡ count) × (bytes ≡ regular_page slot columns base (with_row index row (no_cells columns)))
    → IsPutAlone tells slot columns base index row (record { at = at; page = number; count = count }) v w
alone_on tells slot columns base index number count row at bytes v u w small begins whole fit is some few taken put made = record {
  free = taken.listed ∙ ap (λ (l : List ℕ). number ∷ l) (sym put.free);
  at = is;
  count = omega (arith, some, few);
  on = λ t. record {
    bytes = record {
      number = small;
      begins = begins;
      whole = whole;
      fill = record {
        each = cells_set columns index (Some row) (no_cells columns) fit (no_room columns (regular_room columns));
        room = length-set (no_cells columns) index (Some row) ∙ length-replicate (regular_room columns) None;
        some = omega (arith, made.0, some);
      };
      bytes = put.put t number ∙ changed_page number bytes u.page ∙ made.1;
    };
    count = made.0;
    at = is;
  };
  others = λ t other not. put.put t other ∙ other_page number other bytes u.page not ∙ taken.pages t other;
}

-- a page that is the only one of a series, where `take` can give none
pub one_place : (columns : List Column) (c : Contents) (place : Place) → first_element_page ≤ place.page → place.page < c.count → length c.free ≡ 0 → 1 ≤ place.count → place.count ≤ regular_room columns → ArePlaces columns c (place ∷ [])
one_place columns c place element below free some room = record {
  each = All-cons (IsPlace columns c) place [] (record {
    readable = record { element = element; below = below };
    used = λ has. let within = has.1 in omega (arith, free, within);
    counted = record { some = some; room = room };
  }) (All-nil (IsPlace columns c));
  different = λ i j d before within. absurd (omega (arith, before, within));
}
