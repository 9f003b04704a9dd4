-- The bytes behind the head of a page: each cell has the same size, so each is found and written where it stands.
use Rattle.std.proofs.Common.{◌≡◌, ℕ, zero, suc, ◌+◌, ◌-◌, ◌*◌, ◌<◌, ◌≤◌, Bool, IsTrue, Some, None, IsSome, List, [], ◌∷◌, ◌++◌, length, take, drop, replicate, refl, sym, ap, subst, ◌∙◌, arith, append_assoc, append-nil, length-append, mul-zero, le_trans}
use borrow.Rule.Slice.PartMut.{put_mid}
use Rattle.std.specs.Prelude.{slice_set, slice_index, not}
use Rattle.std.specs.Option.{option_map}
use Rattle.std.proofs.lemmas.List.{take_at, drop_at, drop_all, length-replicate}
use Rattle.std.proofs.lemmas.List.Concat.{flat_map-cons}
use Rattle.std.proofs.Math.ListN.{length-set}
use Rattle.std.proofs.Math.Nat.{mul-div-le, mul-le-mul_left, div-le_of_le-mul}
use Rattle.ts_row.specs.declared.kind.Column.{Column}
use Rattle.ts_row.specs.Row.{width_of, Row, fits, marked}
use Rattle.ts_row.proofs.RowBytesLemmas.{length-row_bytes}
use Rattle.ts_regular.specs.RegularPage.{Cell, FitsCell, cell_bytes, cell_size, regular_room, AreCells, cells_bytes, behind_head}
use Rattle.ts_regular.specs.OnePage.{cell_at, is_seen, with_mark}

-- a cell has its size
pub length-cell : (columns : List Column) (cell : Cell) → FitsCell columns cell → length (cell_bytes columns cell) ≡ cell_size columns
length-cell columns None fit = omega (arith, length-replicate {A = ℕ} (width_of columns) 0)
length-cell columns (Some row) fit = omega (arith, length-row_bytes columns row fit)

pub length-cells : (columns : List Column) (cells : List Cell) → AreCells columns cells → length (cells_bytes columns cells) ≡ cell_size columns * length cells
length-cells columns [] are = sym (mul-zero (cell_size columns))
length-cells columns (cell ∷ cells) are =
    let here : cells_bytes columns (cell ∷ cells) ≡ cell_bytes columns cell ++ cells_bytes columns cells = flat_map-cons (cell_bytes columns) cell cells in
    let size : length (cells_bytes columns (cell ∷ cells)) ≡ cell_size columns + cell_size columns * length cells =
    ap length here ∙ length-append (cell_bytes columns cell) (cells_bytes columns cells) ∙ (λ j. length-cell columns cell are.0 j + length-cells columns cells are.1 j) in
    size ∙ grind arith

-- the cells fit their page
pub cells_fit : (columns : List Column) (n : ℕ) → n ≤ regular_room columns → cell_size columns * n ≤ 4064
cells_fit columns n few = le_trans (mul-le-mul_left (cell_size columns) few) (mul-div-le 4064 (cell_size columns))

pub few_fit : (columns : List Column) → regular_room columns ≤ 4064
few_fit columns = div-le_of_le-mul (cell_size columns) (let long : 4064 ≤ cell_size columns * 4064 = omega arith in long)

pub cell_within : (columns : List Column) (size i n : ℕ) → size ≡ cell_size columns → i < regular_room columns → n ≡ 4064 → size * i + size ≤ n
cell_within columns size i n is below long =
    let fit : cell_size columns * (i + 1) ≤ 4064 = cells_fit columns (i + 1) (omega (arith, below)) in
    let one : cell_size columns * (i + 1) ≡ cell_size columns * i + cell_size columns = grind arith in
    let P : ℕ → Type 0 = λ s. s * i + s ≤ n in
    subst P (sym is) (omega (arith, fit, one, long))

-- the bytes before a cell and behind it, whatever it has
pub record Around (columns : List Column) (i : ℕ) (cells : List Cell) (bytes : List Cell → List ℕ) : Type 0 where
  pub front : List ℕ
  pub back : List ℕ
  pub size : length front ≡ cell_size columns * i
  pub fit : FitsCell columns (cell_at cells i)
  pub own : bytes cells ≡ front ++ (cell_bytes columns (cell_at cells i) ++ back)
  pub other : (cell : Cell) → bytes (slice_set cells i cell) ≡ front ++ (cell_bytes columns cell ++ back)

pub around_cells : (columns : List Column) (i : ℕ) (cells : List Cell) → AreCells columns cells → i < length cells → Around columns i cells (cells_bytes columns)
around_cells columns i [] are within = absurd (omega (arith, within))
around_cells columns zero (cell ∷ cells) are within = record {
  front = [];
  back = cells_bytes columns cells;
  size = sym (mul-zero (cell_size columns));
  fit = are.0;
  own = flat_map-cons (cell_bytes columns) cell cells;
  other = λ new. flat_map-cons (cell_bytes columns) new cells;
}
around_cells columns (suc i) (cell ∷ cells) are within =
    let rest = around_cells columns i cells are.1 (omega (arith, within)) in
    let one : cell_size columns + cell_size columns * i ≡ cell_size columns * suc i = grind arith in
    record {
      front = cell_bytes columns cell ++ rest.front;
      back = rest.back;
      size = length-append (cell_bytes columns cell) rest.front ∙ (λ j. length-cell columns cell are.0 j + rest.size j) ∙ one;
      fit = rest.fit;
      own = flat_map-cons (cell_bytes columns) cell cells ∙ ap (λ (l : List ℕ). cell_bytes columns cell ++ l) rest.own
          ∙ sym (append_assoc (cell_bytes columns cell) rest.front (cell_bytes columns (cell_at cells i) ++ rest.back));
      other = λ new. flat_map-cons (cell_bytes columns) cell (slice_set cells i new) ∙ ap (λ (l : List ℕ). cell_bytes columns cell ++ l) (rest.other new)
          ∙ sym (append_assoc (cell_bytes columns cell) rest.front (cell_bytes columns new ++ rest.back));
    }

pub around : (columns : List Column) (i : ℕ) (cells : List Cell) → AreCells columns cells → i < length cells → Around columns i cells (behind_head columns)
around columns i cells are within =
    let c = around_cells columns i cells are within in
    let zeros : List ℕ = replicate (4064 - cell_size columns * length cells) 0 in
    let regroup = λ (cell : List ℕ). append_assoc c.front (cell ++ c.back) zeros ∙ ap (λ (l : List ℕ). c.front ++ l) (append_assoc cell c.back zeros) in
    record {
      front = c.front;
      back = c.back ++ zeros;
      size = c.size;
      fit = c.fit;
      own = ap (λ (l : List ℕ). l ++ zeros) c.own ∙ regroup (cell_bytes columns (cell_at cells i));
      other = λ new. (λ j. c.other new j ++ replicate (4064 - cell_size columns * length-set cells i new j) 0) ∙ regroup (cell_bytes columns new);
    }

-- a cell as a range of the bytes
pub cell_read : (columns : List Column) (size i : ℕ) (cells : List Cell) (behind : List ℕ) → AreCells columns cells → i < length cells → behind ≡ behind_head columns cells → size ≡ cell_size columns
    → take (size * i + size - size * i) (drop (size * i) behind) ≡ cell_bytes columns (cell_at cells i)
cell_read columns size i cells behind are within same is =
    let a = around columns i cells are within in
    let start : length a.front ≡ size * i = a.size ∙ ap (λ (s : ℕ). s * i) (sym is) in
    let long : length (cell_bytes columns (cell_at cells i)) ≡ size * i + size - size * i = omega (arith, length-cell columns (cell_at cells i) a.fit, is) in
    ap (λ (l : List ℕ). take (size * i + size - size * i) (drop (size * i) l)) (same ∙ a.own)
    ∙ ap (take (size * i + size - size * i)) (drop_at a.front (cell_bytes columns (cell_at cells i) ++ a.back) (size * i) start)
    ∙ take_at (cell_bytes columns (cell_at cells i)) a.back (size * i + size - size * i) long

-- a part is written over another
replace_bytes : (front part back new old : List ℕ) (at k : ℕ) → old ≡ front ++ (part ++ back) → length front ≡ at → length part ≡ k → put_mid at k old new ≡ front ++ (new ++ back)
replace_bytes front part back new old at k is first second =
    let begin : take at old ≡ front = ap (take at) is ∙ take_at front (part ++ back) at first in
    let rest : drop k (drop at old) ≡ back = ap (λ (l : List ℕ). drop k (drop at l)) is ∙ ap (drop k) (drop_at front (part ++ back) at first) ∙ drop_at part back k second in
    λ j. begin j ++ (new ++ rest j)

-- another cell is written
pub cell_written : (columns : List Column) (size i : ℕ) (cell : Cell) (cells : List Cell) (behind new : List ℕ) → AreCells columns cells → i < length cells → behind ≡ behind_head columns cells → size ≡ cell_size columns
    → new ≡ cell_bytes columns cell → put_mid (size * i) (size * i + size - size * i) behind new ≡ behind_head columns (slice_set cells i cell)
cell_written columns size i cell cells behind new are within same is made =
    let a = around columns i cells are within in
    let start : length a.front ≡ size * i = a.size ∙ ap (λ (s : ℕ). s * i) (sym is) in
    let long : length (cell_bytes columns (cell_at cells i)) ≡ size * i + size - size * i = omega (arith, length-cell columns (cell_at cells i) a.fit, is) in
    ap (put_mid (size * i) (size * i + size - size * i) behind) made
    ∙ replace_bytes a.front (cell_bytes columns (cell_at cells i)) a.back (cell_bytes columns cell) behind (size * i) (size * i + size - size * i) (same ∙ a.own) start long
    ∙ sym (a.other cell)

-- a cell with an element has a row
pub some_row : (cell : Cell) → IsSome cell → (row : Row) × (cell ≡ Some row)
some_row None some = absurd (cc)
some_row (Some row) some = (row, refl)

pub fit_row : (columns : List Column) (cell : Cell) (row : Row) → FitsCell columns cell → cell ≡ Some row → IsTrue (fits columns row)
fit_row columns cell row fit is = let P : Cell → Type 0 = FitsCell columns in subst P is fit

pub cell_marked : (columns : List Column) (size i : ℕ) (hidden : Bool) (cells : List Cell) (behind new : List ℕ) → AreCells columns cells → i < length cells → IsSome (cell_at cells i) → behind ≡ behind_head columns cells → size ≡ cell_size columns
    → ((row : Row) → IsTrue (fits columns row) → take (size * i + size - size * i) (drop (size * i) behind) ≡ cell_bytes columns (Some row) → new ≡ cell_bytes columns (Some (marked hidden row)))
    → put_mid (size * i) (size * i + size - size * i) behind new ≡ behind_head columns (with_mark i hidden cells)
cell_marked columns size i hidden cells behind new are within some same is made =
    let a = around columns i cells are within in
    let r = some_row (cell_at cells i) some in
    let bytes = made r.0 (fit_row columns (cell_at cells i) r.0 a.fit r.1) (cell_read columns size i cells behind are within same is ∙ ap (cell_bytes columns) r.1) in
    cell_written columns size i (Some (marked hidden r.0)) cells behind new are within same is bytes
    ∙ ap (λ (c : Cell). behind_head columns (slice_set cells i (option_map (marked hidden) c))) (sym r.1)

-- a first byte, and others behind it
pub first_written : (into new : List ℕ) (b : ℕ) → 1 ≤ length into → length new + 1 ≡ length into → put_mid 1 (length (slice_set into 0 b) - 1) (slice_set into 0 b) new ≡ b ∷ new
first_written [] new b some long = absurd (omega (arith, some))
first_written (x ∷ into) new b some long =
    ap (λ (l : List ℕ). b ∷ (new ++ l)) (drop_all (length (b ∷ into) - 1) into (omega arith)) ∙ ap (λ (l : List ℕ). b ∷ l) (append-nil new)

-- whether a cell with a first byte 1 has an element that isn't hidden
pub seen_row : (columns : List Column) (cell : Cell) (hidden : Bool) (bytes : List ℕ) → FitsCell columns cell → bytes ≡ cell_bytes columns cell → slice_index bytes 0 ≡ 1
    → ((row : Row) → IsTrue (fits columns row) → bytes ≡ cell_bytes columns (Some row) → hidden ≡ row.hidden) → not hidden ≡ is_seen cell
seen_row columns None hidden bytes fit same first told =
    let clash : 0 ≡ 1 = sym (ap (λ (l : List ℕ). slice_index l 0) same) ∙ first in
    absurd (omega (arith, clash))
seen_row columns (Some row) hidden bytes fit same first told = ap not (told row fit same)
