-- The judging of cells one after the other.
use Rattle.std.proofs.Common.{◌≡◌, ℕ, suc, ◌+◌, ◌-◌, ◌*◌, ◌<◌, ◌≤◌, Bool, true, false, ◌||◌, IsTrue, Option, Some, None, is_some, IfSome, IfNone, List, [], ◌∷◌, ◌++◌, length, take, drop, refl, sym, ap, subst, ◌∙◌, arith, length-append, append-nil}
use Rattle.std.specs.Prelude.{slice_get, slice_index}
use Rattle.std.specs.Option.{option_map}
use Rattle.std.proofs.lemmas.List.{take_at, drop_at}
use Rattle.std.proofs.lemmas.List.Concat.{flat_map-cons}
use Rattle.std.proofs.lemmas.Grind.{flat_map-append}
use Rattle.std.proofs.Math.Seq.{take-add, take-length, take-append_seam, drop-append_seam}
use Rattle.ts_row.specs.declared.kind.Column.{Column}
use Rattle.ts_row.specs.Row.{Row, fits}
use Rattle.ts_regular.specs.declared.extent.RegularExtent.{RegularExtent}
use Rattle.ts_regular.specs.RegularPage.{Cell, FitsCell, cell_bytes, cell_size, regular_room, OffsetElement, elements_from, has_hidden, last_of, last_offset, AreCells, FillPage, HasExtent, cells_bytes, filled_count}
use Rattle.ts_regular.specs.OnePage.{cell_at}
use Rattle.ts_regular.proofs.CellsLemmas.{count_within}
use Rattle.ts_regular.proofs.BytesLemmas.{around_cells, length-cell}

-- the bytes of cell number i
abbrev pub cell_in : List Column → ℕ → List ℕ → List ℕ
cell_in columns i cells = take (cell_size columns) (drop (cell_size columns * i) cells)

-- the first cells, so many: how many of them have an element, the last of these, and whether some are hidden
pub record SoFar (columns : List Column) (bytes : List ℕ) (i count last : ℕ) (hidden : Bool) : Type 0 where
  pub cells : List Cell
  pub each : AreCells columns cells
  pub number : length cells ≡ i
  pub are : take (cell_size columns * i) bytes ≡ cells_bytes columns cells
  pub filled : filled_count cells ≡ count
  pub ends : 1 ≤ count → (at : ℕ) → last_offset (elements_from at cells) ≡ Some (at + last)
  pub hides : (at : ℕ) → has_hidden (elements_from at cells) ≡ hidden

pub so_far_none_yet : (columns : List Column) (bytes : List ℕ) → SoFar columns bytes 0 0 0 false
so_far_none_yet columns bytes = record {
  cells = [];
  each = tt;
  number = refl;
  are = ap (λ (n : ℕ). take n bytes) (let none : cell_size columns * 0 ≡ 0 = omega arith in none);
  filled = refl;
  ends = λ some at. absurd (omega (arith, some));
  hides = λ at. refl;
}

-- one more at the end
each_more : (columns : List Column) (cells : List Cell) (cell : Cell) → AreCells columns cells → FitsCell columns cell → AreCells columns (cells ++ cell ∷ [])
each_more columns [] cell are fit = (fit, tt)
each_more columns (x ∷ cells) cell are fit = (are.0, each_more columns cells cell are.1 fit)

filled_none : (cells : List Cell) → filled_count (cells ++ None ∷ []) ≡ filled_count cells
filled_none [] = refl
filled_none (None ∷ cells) = filled_none cells
filled_none (Some row ∷ cells) = ap suc (filled_none cells)

filled_some : (cells : List Cell) (new : Row) → filled_count (cells ++ Some new ∷ []) ≡ filled_count cells + 1
filled_some [] new = omega arith
filled_some (None ∷ cells) new = filled_some cells new
filled_some (Some row ∷ cells) new = let rest = filled_some cells new in omega (arith, rest)

elements_none : (at : ℕ) (cells : List Cell) → elements_from at (cells ++ None ∷ []) ≡ elements_from at cells
elements_none at [] = refl
elements_none at (None ∷ cells) = elements_none (at + 1) cells
elements_none at (Some row ∷ cells) = ap (λ (l : List OffsetElement). (at, row) ∷ l) (elements_none (at + 1) cells)

elements_some : (at n : ℕ) (cells : List Cell) (new : Row) → n ≡ at + length cells → elements_from at (cells ++ Some new ∷ []) ≡ elements_from at cells ++ (n, new) ∷ []
elements_some at n [] new is = let same : at ≡ n = omega (arith, is) in ap (λ (k : ℕ). (k, new) ∷ []) same
elements_some at n (None ∷ cells) new is = elements_some (at + 1) n cells new (omega (arith, is))
elements_some at n (Some row ∷ cells) new is = ap (λ (l : List OffsetElement). (at, row) ∷ l) (elements_some (at + 1) n cells new (omega (arith, is)))

pub get_last : (es : List OffsetElement) (e : OffsetElement) → slice_get (es ++ e ∷ []) (length es) ≡ Some e
get_last [] e = refl
get_last (x ∷ es) e = get_last es e

pub last_more : (es : List OffsetElement) (e : OffsetElement) → last_of (es ++ e ∷ []) ≡ Some e
last_more es e =
    ap (slice_get (es ++ e ∷ [])) (let one : length (es ++ e ∷ []) - 1 ≡ length es = omega (arith, length-append es (e ∷ [])) in one) ∙ get_last es e

or_false : (a : Bool) → (a || false) ≡ a
or_false true = refl
or_false false = refl

or_or : (a b c : Bool) → (a || (b || c)) ≡ ((a || b) || c)
or_or true b c = refl
or_or false b c = refl

hidden_more : (es : List OffsetElement) (e : OffsetElement) → has_hidden (es ++ e ∷ []) ≡ (has_hidden es || e.1.hidden)
hidden_more [] e = or_false e.1.hidden
hidden_more (x ∷ es) e = ap (λ (b : Bool). x.1.hidden || b) (hidden_more es e) ∙ or_or x.1.hidden (has_hidden es) e.1.hidden

bytes_more : (columns : List Column) (bytes : List ℕ) (i : ℕ) (cells : List Cell) (cell : Cell) → take (cell_size columns * i) bytes ≡ cells_bytes columns cells → cell_in columns i bytes ≡ cell_bytes columns cell
    → take (cell_size columns * (i + 1)) bytes ≡ cells_bytes columns (cells ++ cell ∷ [])
bytes_more columns bytes i cells cell are same =
    ap (λ (n : ℕ). take n bytes) (let one : cell_size columns * (i + 1) ≡ cell_size columns * i + cell_size columns = grind arith in one)
    ∙ take-add (cell_size columns * i) (cell_size columns) bytes
    ∙ (λ j. are j ++ same j)
    ∙ sym (flat_map-append (cell_bytes columns) cells (cell ∷ []) ∙ ap (λ (l : List ℕ). cells_bytes columns cells ++ l) (flat_map-cons (cell_bytes columns) cell [] ∙ append-nil (cell_bytes columns cell)))

-- a cell more without an element
pub so_far_none : (columns : List Column) (bytes : List ℕ) (i count last : ℕ) (hidden : Bool) → SoFar columns bytes i count last hidden → cell_in columns i bytes ≡ cell_bytes columns None → SoFar columns bytes (i + 1) count last hidden
so_far_none columns bytes i count last hidden so same = record {
  cells = so.cells ++ None ∷ [];
  each = each_more columns so.cells None so.each tt;
  number = length-append so.cells (None ∷ []) ∙ ap (λ (n : ℕ). n + 1) so.number;
  are = bytes_more columns bytes i so.cells None so.are same;
  filled = filled_none so.cells ∙ so.filled;
  ends = λ some at. ap last_offset (elements_none at so.cells) ∙ so.ends some at;
  hides = λ at. ap has_hidden (elements_none at so.cells) ∙ so.hides at;
}

-- one with an element
pub so_far_some : (columns : List Column) (bytes : List ℕ) (i count last : ℕ) (hidden : Bool) (row : Row) → SoFar columns bytes i count last hidden → IsTrue (fits columns row) → cell_in columns i bytes ≡ cell_bytes columns (Some row)
    → SoFar columns bytes (i + 1) (count + 1) i (hidden || row.hidden)
so_far_some columns bytes i count last hidden row so fit same = record {
  cells = so.cells ++ Some row ∷ [];
  each = each_more columns so.cells (Some row) so.each fit;
  number = length-append so.cells (Some row ∷ []) ∙ ap (λ (n : ℕ). n + 1) so.number;
  are = bytes_more columns bytes i so.cells (Some row) so.are same;
  filled = filled_some so.cells row ∙ ap (λ (n : ℕ). n + 1) so.filled;
  ends = λ some at.
      let more = elements_some at (at + i) so.cells row (ap (λ (n : ℕ). at + n) (sym so.number)) in
      ap last_offset more ∙ ap (option_map (λ (e : OffsetElement). e.0)) (last_more (elements_from at so.cells) (at + i, row));
  hides = λ at.
      let more = elements_some at (at + i) so.cells row (ap (λ (n : ℕ). at + n) (sym so.number)) in
      ap has_hidden more ∙ hidden_more (elements_from at so.cells) (at + i, row) ∙ ap (λ (b : Bool). b || row.hidden) (so.hides at);
}

-- what a cell that was judged adds
pub so_far_more : (columns : List Column) (bytes : List ℕ) (i count last : ℕ) (hidden filled hidden_too : Bool) (cell : Cell) → SoFar columns bytes i count last hidden → FitsCell columns cell → cell_in columns i bytes ≡ cell_bytes columns cell → is_some cell ≡ filled
    → filled ≡ true → ((row : Row) → IsTrue (fits columns row) → cell_in columns i bytes ≡ cell_bytes columns (Some row) → hidden_too ≡ (hidden || row.hidden))
    → SoFar columns bytes (i + 1) (count + 1) i hidden_too
so_far_more columns bytes i count last hidden filled hidden_too None so fit same is one told = absurd (cc)
so_far_more columns bytes i count last hidden filled hidden_too (Some row) so fit same is one told =
    subst (λ (b : Bool). SoFar columns bytes (i + 1) (count + 1) i b) (sym (told row fit same)) (so_far_some columns bytes i count last hidden row so fit same)

pub so_far_empty : (columns : List Column) (bytes : List ℕ) (i count last : ℕ) (hidden filled : Bool) (cell : Cell) → SoFar columns bytes i count last hidden → cell_in columns i bytes ≡ cell_bytes columns cell → is_some cell ≡ filled → filled ≡ false
    → SoFar columns bytes (i + 1) count last hidden
so_far_empty columns bytes i count last hidden filled None so same is zero_is = so_far_none columns bytes i count last hidden so same
so_far_empty columns bytes i count last hidden filled (Some row) so same is zero_is = absurd (cc)

-- no more cells have an element than were judged
pub so_far_few : (columns : List Column) (bytes : List ℕ) (i count last : ℕ) (hidden : Bool) → SoFar columns bytes i count last hidden → count ≤ i
so_far_few columns bytes i count last hidden so = omega (arith, count_within so.cells, so.filled, so.number)

-- all cells
pub so_far_all : (columns : List Column) (bytes : List ℕ) (room base : ℕ) (extent : RegularExtent) → SoFar columns bytes room extent.count extent.last extent.hidden → room ≡ regular_room columns → length bytes ≡ cell_size columns * regular_room columns → 1 ≤ extent.count → base ≡ extent.base
    → (cells : List Cell) × FillPage columns cells × HasExtent base cells extent × (bytes ≡ cells_bytes columns cells)
so_far_all columns bytes room base extent so is size some begins = (
  so.cells,
  record { each = so.each; room = so.number ∙ is; some = omega (arith, so.filled, some) },
  record { begins = begins; count = so.filled; last = so.ends some base; hides = so.hides base },
  sym (take-length bytes) ∙ ap (λ (n : ℕ). take n bytes) (size ∙ ap (λ (n : ℕ). cell_size columns * n) (sym is)) ∙ so.are,
)

-- where the bytes are cells, each of them is one
pub cell_there : (columns : List Column) (bytes : List ℕ) (i : ℕ) (cells : List Cell) → AreCells columns cells → i < length cells → bytes ≡ cells_bytes columns cells
    → FitsCell columns (cell_at cells i) × (cell_in columns i bytes ≡ cell_bytes columns (cell_at cells i))
cell_there columns bytes i cells are within same =
    let a = around_cells columns i cells are within in (
      a.fit,
      ap (cell_in columns i) (same ∙ a.own)
          ∙ ap (take (cell_size columns)) (drop_at a.front (cell_bytes columns (cell_at cells i) ++ a.back) (cell_size columns * i) a.size)
          ∙ take_at (cell_bytes columns (cell_at cells i)) a.back (cell_size columns) (length-cell columns (cell_at cells i) a.fit),
    )

-- a cell as a range of the bytes
pub cell_range : (columns : List Column) (i size : ℕ) (bytes : List ℕ) → size ≡ cell_size columns → take (size * i + size - size * i) (drop (size * i) bytes) ≡ cell_in columns i bytes
cell_range columns i size bytes is =
    ap (λ (n : ℕ). take n (drop (size * i) bytes)) (let e : size * i + size - size * i ≡ size = omega arith in e)
    ∙ ap (λ (n : ℕ). take n (drop (n * i) bytes)) is

-- two lists of cells with the same bytes have as many elements
first_flag : (columns : List Column) (a b : Cell) (cells others : List Cell) → cell_bytes columns a ≡ cell_bytes columns b → filled_count cells ≡ filled_count others → filled_count (a ∷ cells) ≡ filled_count (b ∷ others)
first_flag columns None None cells others same rest = rest
first_flag columns None (Some row) cells others same rest = absurd (let clash : ◌≡◌ {A = ℕ} 0 1 = ap (λ (l : List ℕ). slice_index l 0) same in omega (arith, clash))
first_flag columns (Some row) None cells others same rest = absurd (let clash : ◌≡◌ {A = ℕ} 1 0 = ap (λ (l : List ℕ). slice_index l 0) same in omega (arith, clash))
first_flag columns (Some row) (Some other) cells others same rest = ap suc rest

pub same_count : (columns : List Column) (cells others : List Cell) → AreCells columns cells → AreCells columns others → length cells ≡ length others → cells_bytes columns cells ≡ cells_bytes columns others → filled_count cells ≡ filled_count others
same_count columns [] [] a b size same = refl
same_count columns [] (y ∷ others) a b size same = absurd (omega (arith, size))
same_count columns (x ∷ cells) [] a b size same = absurd (omega (arith, size))
same_count columns (x ∷ cells) (y ∷ others) a b size same =
    let split : cell_bytes columns x ++ cells_bytes columns cells ≡ cell_bytes columns y ++ cells_bytes columns others =
    sym (flat_map-cons (cell_bytes columns) x cells) ∙ same ∙ flat_map-cons (cell_bytes columns) y others in
    let sizes : length (cell_bytes columns x) ≡ length (cell_bytes columns y) = length-cell columns x a.0 ∙ sym (length-cell columns y b.0) in
    let first : cell_bytes columns x ≡ cell_bytes columns y =
    sym (take-append_seam (cell_bytes columns x) (cells_bytes columns cells)) ∙ (λ j. take (sizes j) (split j)) ∙ take-append_seam (cell_bytes columns y) (cells_bytes columns others) in
    let rest : cells_bytes columns cells ≡ cells_bytes columns others =
    sym (drop-append_seam (cell_bytes columns x) (cells_bytes columns cells)) ∙ (λ j. drop (sizes j) (split j)) ∙ drop-append_seam (cell_bytes columns y) (cells_bytes columns others) in
    first_flag columns x y cells others first (same_count columns cells others a.1 b.1 (omega (arith, size)) rest)

-- where no cell that was judged has an element, there is no such page
pub none_filled : (columns : List Column) (bytes : List ℕ) (room last : ℕ) (hidden : Bool) (cells : List Cell) → SoFar columns bytes room 0 last hidden → room ≡ regular_room columns → length bytes ≡ cell_size columns * regular_room columns
    → FillPage columns cells → bytes ≡ cells_bytes columns cells → ⊥
none_filled columns bytes room last hidden cells so is size fill same =
    let own : bytes ≡ cells_bytes columns so.cells =
    sym (take-length bytes) ∙ ap (λ (n : ℕ). take n bytes) (size ∙ ap (λ (n : ℕ). cell_size columns * n) (sym is)) ∙ so.are in
    let one = same_count columns cells so.cells fill.each so.each (omega (arith, fill.room, so.number, is)) (sym same ∙ own) in
    let some = fill.some in
    omega (arith, one, so.filled, some)

-- the same with other words for its numbers
pub so_far_as : (columns : List Column) (bytes : List ℕ) (i count last other_count other_last : ℕ) (hidden other_hidden : Bool) → other_count ≡ count → other_last ≡ last → other_hidden ≡ hidden → SoFar columns bytes i count last hidden
    → SoFar columns bytes i other_count other_last other_hidden
so_far_as columns bytes i count last other_count other_last hidden other_hidden counts lasts hides so =
    subst (λ (n : ℕ). SoFar columns bytes i n other_last other_hidden) (sym counts)
    (subst (λ (n : ℕ). SoFar columns bytes i count n other_hidden) (sym lasts) (subst (λ (b : Bool). SoFar columns bytes i count last b) (sym hides) so))

pub if_none_any : {A : Type 0} (o : Option A) (P : Type 0) → P → IfNone o P
if_none_any None P p = p
if_none_any (Some x) P p = tt

pub if_some_weaker : {A : Type 0} (o : Option A) (P Q : A → Type 0) → ((x : A) → P x → Q x) → IfSome o P → IfSome o Q
if_some_weaker None P Q each none = tt
if_some_weaker (Some x) P Q each some = each x some

pub if_none_weaker : {A : Type 0} (o : Option A) (P Q : Type 0) → (P → Q) → IfNone o P → IfNone o Q
if_none_weaker None P Q each none = each none
if_none_weaker (Some x) P Q each some = tt

-- what two options that are one hold
pub some_one : {A : Type 0} {x y : A} → ◌≡◌ {A = Option A} (Some x) (Some y) → x ≡ y
some_one e = cc
