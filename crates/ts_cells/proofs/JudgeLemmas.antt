-- The judging of cells one after the other.
use Rattle.std.proofs.Common.{◌≡◌, ◌≢◌, ℕ, ◌+◌, ◌-◌, ◌*◌, ◌<◌, ℤ, ◌<ℤ◌, ◌≤ℤ◌, Bool, true, false, ◌||◌, Some, List, [], ◌∷◌, ◌++◌, length, take, drop, refl, sym, ap, subst, ◌∙◌, arith, length-append, append-nil, mul-zero}
use Rattle.std.proofs.lemmas.Int.{ints}
use Rattle.std.proofs.lemmas.List.Concat.{flat_map-cons}
use Rattle.std.proofs.Math.Seq.{take-add, take-length}
use Rattle.ts_row.specs.declared.kind.Column.{Column}
use Rattle.ts_row.proofs.RowBytesLemmas.{valid}
use Rattle.ts_cells.specs.IrregularPage.{Element, has_hidden, IsElement, cell_bytes, cell_size, AreElements, AreRising, AreInOrder, cells_bytes, first_stamp, last_stamp, HasEnds, HasExtent}
use Rattle.ts_cells.specs.declared.extent.Extent.{Extent}
use Rattle.ts_cells.proofs.PageLemmas.{AreElements-more, AreElements-front, AreRising-more, AreRising-at, last_stamp-more, cells_bytes-more, same_cells, cell_one, cut}

-- the bytes of cell number i
abbrev pub cell_in : List Column → ℕ → List ℕ → List ℕ
cell_in columns i cells = take (cell_size columns) (drop (cell_size columns * i) cells)

-- the first cells, so many, are those of elements in order, some of them hidden or none
pub record SoFar (columns : List Column) (cells : List ℕ) (i : ℕ) (first last : ℤ) (hidden : Bool) : Type 0 where
  pub es : List Element
  pub order : AreInOrder columns es
  pub count : length es ≡ i
  pub bytes : take (cell_size columns * i) cells ≡ cells_bytes columns es
  pub ends : HasEnds es first last
  pub hides : has_hidden es ≡ hidden

or_false : (a : Bool) → (a || false) ≡ a
or_false true = refl
or_false false = refl

-- the first cell
pub so_far_first : (columns : List Column) (cells : List ℕ) (e : Element) → IsElement columns e → take (cell_size columns) cells ≡ cell_bytes columns e → SoFar columns cells 1 e.0 e.0 e.1.hidden
so_far_first columns cells e is same = record {
  es = e ∷ [];
  order = record { each = (is, tt); rising = tt };
  count = refl;
  bytes = ap (λ (n : ℕ). take n cells) (let one : cell_size columns * 1 ≡ cell_size columns = omega arith in one) ∙ same
      ∙ sym (flat_map-cons (cell_bytes columns) e [] ∙ append-nil (cell_bytes columns e));
  ends = record { begins = refl; ends = refl };
  hides = or_false e.1.hidden;
}

first_stamp-more : (es : List Element) (e : Element) (z : ℤ) → first_stamp es ≡ Some z → first_stamp (es ++ e ∷ []) ≡ Some z
first_stamp-more [] e z is = absurd (cc)
first_stamp-more (x ∷ es) e z is = is

or_or : (a b c : Bool) → (a || (b || c)) ≡ ((a || b) || c)
or_or true b c = refl
or_or false b c = refl

has_hidden-more : (es : List Element) (e : Element) → has_hidden (es ++ e ∷ []) ≡ (has_hidden es || e.1.hidden)
has_hidden-more [] e = or_false e.1.hidden
has_hidden-more (x ∷ es) e = ap (λ (b : Bool). x.1.hidden || b) (has_hidden-more es e) ∙ or_or x.1.hidden (has_hidden es) e.1.hidden

-- one cell more, with a later stamp
pub so_far_more : (columns : List Column) (cells : List ℕ) (i : ℕ) (first last : ℤ) (hidden : Bool) (e : Element) → SoFar columns cells i first last hidden → IsElement columns e → cell_in columns i cells ≡ cell_bytes columns e → last <ℤ e.0 → SoFar columns cells (i + 1) first e.0 (hidden || e.1.hidden)
so_far_more columns cells i first last hidden e so is same later = record {
  es = so.es ++ e ∷ [];
  order = record { each = AreElements-more columns so.es e so.order.each is; rising = AreRising-more so.es e last so.order.rising so.ends.ends later };
  count = length-append so.es (e ∷ []) ∙ ap (λ (n : ℕ). n + 1) so.count;
  bytes = ap (λ (n : ℕ). take n cells) (let one : cell_size columns * (i + 1) ≡ cell_size columns * i + cell_size columns = grind arith in one)
      ∙ take-add (cell_size columns * i) (cell_size columns) cells
      ∙ (λ j. so.bytes j ++ same j) ∙ sym (cells_bytes-more columns so.es e);
  ends = record { begins = first_stamp-more so.es e first so.ends.begins; ends = last_stamp-more so.es e };
  hides = has_hidden-more so.es e ∙ ap (λ (b : Bool). b || e.1.hidden) so.hides;
}

-- all cells
pub so_far_all : (columns : List Column) (cells : List ℕ) (extent : Extent) → SoFar columns cells extent.count extent.first extent.last extent.hidden → length cells ≡ cell_size columns * extent.count
    → (es : List Element) × AreInOrder columns es × HasExtent es extent × (length es ≡ extent.count) × (cells ≡ cells_bytes columns es)
so_far_all columns cells extent so size =
    (so.es, so.order, record { count = so.count; ends = so.ends; hides = so.hides }, so.count, sym (take-length cells) ∙ ap (λ (n : ℕ). take n cells) size ∙ so.bytes)

-- where the bytes are the cells of elements, no cell is none
pub no_cell : (columns : List Column) (cells : List ℕ) (i : ℕ) (es : List Element) → AreElements columns es → i < length es → cells ≡ cells_bytes columns es
    → ((e : Element) → IsElement columns e → cell_in columns i cells ≢ cell_bytes columns e) → ⊥
no_cell columns cells i es are within same none =
    let there = cut columns i es are within in
    none there.element there.is (ap (cell_in columns i) same ∙ there.cell)

-- and none has a stamp that isn't later than the one before it
pub not_later : (columns : List Column) (cells : List ℕ) (i : ℕ) (first last : ℤ) (hidden : Bool) (e : Element) (es : List Element) → valid columns → SoFar columns cells i first last hidden → IsElement columns e → cell_in columns i cells ≡ cell_bytes columns e
    → AreInOrder columns es → i < length es → cells ≡ cells_bytes columns es → e.0 ≤ℤ last → ⊥
not_later columns cells i first last hidden e es kinds so is cell order within same early =
    let there = cut columns i es order.each within in
    let front : List Element = take i es in
    let all : AreElements columns (front ++ there.element ∷ there.after) = subst (AreElements columns) there.whole order.each in
    let one : so.es ≡ front = same_cells columns so.es front kinds so.order.each (AreElements-front columns front (there.element ∷ there.after) all) (so.count ∙ sym there.count)
    (sym so.bytes ∙ ap (take (cell_size columns * i)) same ∙ there.before) in
    let mine : e ≡ there.element = cell_one columns e there.element kinds is there.is (sym cell ∙ ap (cell_in columns i) same ∙ there.cell) in
    let rising : AreRising (front ++ there.element ∷ there.after) = subst AreRising there.whole order.rising in
    let later : last <ℤ there.element.0 = AreRising-at front there.element there.after last rising (ap last_stamp (sym one) ∙ so.ends.ends) in
    let P : Element → Type 0 = λ f. last <ℤ f.0 in
    let mine_later : last <ℤ e.0 = subst P (sym mine) later in
    omega (arith, ints, mine_later, early)

-- a cell as a range of the bytes
pub cell_range : (columns : List Column) (i size : ℕ) (cells : List ℕ) → size ≡ cell_size columns → take (size * i + size - size * i) (drop (size * i) cells) ≡ cell_in columns i cells
cell_range columns i size cells is =
    ap (λ (n : ℕ). take n (drop (size * i) cells)) (let e : size * i + size - size * i ≡ size = omega arith in e)
    ∙ ap (λ (n : ℕ). take n (drop (n * i) cells)) is

-- the first cell as a range
pub first_range : (columns : List Column) (cells : List ℕ) → take (cell_size columns) cells ≡ cell_in columns 0 cells
first_range columns cells = ap (λ (n : ℕ). take (cell_size columns) (drop n cells)) (sym (mul-zero (cell_size columns)))
