-- The elements in a range of offsets, and cells without them.
use Rattle.std.proofs.Common.{◌≡◌, ℕ, zero, suc, ◌+◌, ◌-◌, ◌<◌, ◌≤◌, min, inl, inr, if◌then◌else◌, Bool, true, false, not, Some, None, List, [], ◌∷◌, length, refl, sym, ap, ◌∙◌, arith}
use Rattle.std.proofs.lemmas.Bool.{cases_lt}
use Rattle.std.proofs.lemmas.Bool.Decides.{nat_tests}
use Rattle.ts_row.specs.declared.kind.Column.{Column}
use Rattle.ts_regular.specs.RegularPage.{Cell, OffsetElement, elements_from, AreCells, filled_count}
use Rattle.ts_regular.specs.OnePage.{cell_at, without_row}
use Rattle.ts_regular.specs.Range.{is_between, outside}
use Rattle.ts_regular.specs.Cut.{cells_outside}

-- which offsets are in a range
pub between_in : (from to at : ℕ) → from ≤ at → at < to → is_between from to at ≡ true
between_in from to at low high = grind (arith, nat_tests)

pub between_before : (from to at : ℕ) → at < from → is_between from to at ≡ false
between_before from to at low = grind (arith, nat_tests)

pub between_behind : (from to at : ℕ) → to ≤ at → is_between from to at ≡ false
between_behind from to at high = grind (arith, nat_tests)

pub between_none : (from to at : ℕ) → to ≤ from → is_between from to at ≡ false
between_none from to at turned = grind (arith, nat_tests)

pub between_next : (from to at : ℕ) → at < to → is_between from (to + 1) at ≡ is_between from to at
between_next from to at low = grind (arith, nat_tests)

-- one list or another, by a test
pub either : {A : Type 0} (b : Bool) (x y : A) → b ≡ true → (if b then x else y) ≡ x
either true x y is = refl
either false x y is = absurd (cc)

pub neither : {A : Type 0} (b : Bool) (x y : A) → b ≡ false → (if b then x else y) ≡ y
neither true x y is = absurd (cc)
neither false x y is = refl

-- cells without the elements in a range are as many
pub outside_long : (from to at : ℕ) (cells : List Cell) → length (cells_outside from to at cells) ≡ length cells
outside_long from to at [] = refl
outside_long from to at (cell ∷ cells) = ap suc (outside_long from to (at + 1) cells)

pub outside_fit : (columns : List Column) (from to at : ℕ) (cells : List Cell) → AreCells columns cells → AreCells columns (cells_outside from to at cells)
outside_fit columns from to at [] are = tt
outside_fit columns from to at (cell ∷ cells) are = one (is_between from to at) cell (are.0, tt) (outside_fit columns from to (at + 1) cells are.1)
  where
    one : (b : Bool) (cell : Cell) → AreCells columns (cell ∷ []) → AreCells columns (cells_outside from to (at + 1) cells) → AreCells columns ((if b then None else cell) ∷ cells_outside from to (at + 1) cells)
    one true cell fit rest = (tt, rest)
    one false cell fit rest = (fit.0, rest)

-- a cell without an element is one already
pub without_none : (i : ℕ) (cells : List Cell) → cell_at cells i ≡ None → without_row i cells ≡ cells
without_none i [] none = refl
without_none zero (cell ∷ cells) none = ap (λ (c : Cell). c ∷ cells) (sym none)
without_none (suc i) (cell ∷ cells) none = ap (λ (l : List Cell). cell ∷ l) (without_none i cells none)

-- ranges that agree on the cells
pub outside_agree : (from to low high at : ℕ) (cells : List Cell) → ((n : ℕ) → at ≤ n → n < at + length cells → is_between from to n ≡ is_between low high n)
    → cells_outside from to at cells ≡ cells_outside low high at cells
outside_agree from to low high at [] same = refl
outside_agree from to low high at (cell ∷ cells) same =
    let first = same at (omega arith) (omega arith) in
    let rest = outside_agree from to low high (at + 1) cells (λ n above below. same n (omega (arith, above)) (omega (arith, below))) in
    λ j. (if first j then None else cell) ∷ rest j

-- and one with none of their offsets
pub outside_none : (from to at : ℕ) (cells : List Cell) → ((n : ℕ) → at ≤ n → n < at + length cells → is_between from to n ≡ false) → cells_outside from to at cells ≡ cells
outside_none from to at [] none = refl
outside_none from to at (cell ∷ cells) none =
    let first : (if is_between from to at then None else cell) ≡ cell = neither (is_between from to at) None cell (none at (omega arith) (omega arith)) in
    let rest = outside_none from to (at + 1) cells (λ n above below. none n (omega (arith, above)) (omega (arith, below))) in
    λ j. first j ∷ rest j

-- a range with one offset more
pub outside_next : (from to at i : ℕ) (cells : List Cell) → i < length cells → from ≤ to → to ≡ at + i → cells_outside from (to + 1) at cells ≡ without_row i (cells_outside from to at cells)
outside_next from to at i [] small low is = absurd (omega (arith, small))
outside_next from to at zero (cell ∷ cells) small low is =
    let first : (if is_between from (to + 1) at then None else cell) ≡ None = either (is_between from (to + 1) at) None cell (between_in from (to + 1) at (omega (arith, low, is)) (omega (arith, is))) in
    let more = outside_none from (to + 1) (at + 1) cells (λ n above below. between_behind from (to + 1) n (omega (arith, above, is))) in
    let less = outside_none from to (at + 1) cells (λ n above below. between_behind from to n (omega (arith, above, is))) in
    λ j. first j ∷ (more ∙ sym less) j
outside_next from to at (suc i) (cell ∷ cells) small low is =
    let first = between_next from to at (omega (arith, is)) in
    let rest = outside_next from to (at + 1) i cells (omega (arith, small)) low (omega (arith, is)) in
    λ j. (if first j then None else cell) ∷ rest j

-- the elements that are left
pub outside_elements : (from to at : ℕ) (cells : List Cell) → elements_from at (cells_outside from to at cells) ≡ outside from to (elements_from at cells)
outside_elements from to at [] = refl
outside_elements from to at (None ∷ cells) = one (is_between from to at) ∙ outside_elements from to (at + 1) cells
  where
    one : (b : Bool) → elements_from at ((if b then None else None) ∷ cells_outside from to (at + 1) cells) ≡ elements_from (at + 1) (cells_outside from to (at + 1) cells)
    one true = refl
    one false = refl
outside_elements from to at (Some row ∷ cells) = one (is_between from to at) (outside_elements from to (at + 1) cells)
  where
    one : (b : Bool) → elements_from (at + 1) (cells_outside from to (at + 1) cells) ≡ outside from to (elements_from (at + 1) cells)
        → elements_from at ((if b then None else Some row) ∷ cells_outside from to (at + 1) cells) ≡ (if not b then (at, row) ∷ outside from to (elements_from (at + 1) cells) else outside from to (elements_from (at + 1) cells))
    one true rest = rest
    one false rest = ap (λ (l : List OffsetElement). (at, row) ∷ l) rest

-- the cells from the first offset of a range up to its end, where they are as many as a page has
pub cells_begin : (from base room k : ℕ) (cells : List Cell) → k ≡ min (from - base) room → length cells ≡ room → cells_outside from (base + k) base cells ≡ cells
cells_begin from base room k cells is long = outside_none from (base + k) base cells (λ n above below. elim (cases_lt n from) [
  | inl low ↦ between_before from (base + k) n low
  | inr high ↦ between_behind from (base + k) n (omega (arith, is, high, above))
])

pub cells_next : (from base room k i : ℕ) → k ≡ min (from - base) room → k ≤ i → i < room → from ≤ base + i
cells_next from base room k i is low small = omega (arith, is, low, small)

pub cells_end : (from to base room k i : ℕ) (cells : List Cell) → k ≡ min (to - base) room → i ≡ k → length cells ≡ room → cells_outside from (base + i) base cells ≡ cells_outside from to base cells
cells_end from to base room k i cells is end long = outside_agree from (base + i) from to base cells (λ n above below. elim (cases_lt n to) [
  | inl low ↦ grind (arith, nat_tests)
  | inr high ↦ between_behind from (base + i) n (omega (arith, is, end, high, above)) ∙ sym (between_behind from to n high)
])

-- no more elements are left than there were; where as many are, all are
pub outside_few : (from to at : ℕ) (cells : List Cell) → filled_count (cells_outside from to at cells) ≤ filled_count cells
outside_few from to at [] = omega arith
outside_few from to at (None ∷ cells) = one (is_between from to at) (outside_few from to (at + 1) cells)
  where
    one : (b : Bool) → filled_count (cells_outside from to (at + 1) cells) ≤ filled_count cells → filled_count ((if b then None else None) ∷ cells_outside from to (at + 1) cells) ≤ filled_count cells
    one true rest = rest
    one false rest = rest
outside_few from to at (Some row ∷ cells) = one (is_between from to at) (outside_few from to (at + 1) cells)
  where
    one : (b : Bool) → filled_count (cells_outside from to (at + 1) cells) ≤ filled_count cells → filled_count ((if b then None else Some row) ∷ cells_outside from to (at + 1) cells) ≤ suc (filled_count cells)
    one true rest = omega (arith, rest)
    one false rest = omega (arith, rest)

pub outside_whole : (from to at : ℕ) (cells : List Cell) → filled_count (cells_outside from to at cells) ≡ filled_count cells → cells_outside from to at cells ≡ cells
outside_whole from to at [] same = refl
outside_whole from to at (None ∷ cells) same = one (is_between from to at) same (outside_whole from to (at + 1) cells)
  where
    one : (b : Bool) → filled_count ((if b then None else None) ∷ cells_outside from to (at + 1) cells) ≡ filled_count cells
        → (filled_count (cells_outside from to (at + 1) cells) ≡ filled_count cells → cells_outside from to (at + 1) cells ≡ cells)
        → (if b then None else None) ∷ cells_outside from to (at + 1) cells ≡ None ∷ cells
    one true same rest = ap (λ (l : List Cell). None ∷ l) (rest same)
    one false same rest = ap (λ (l : List Cell). None ∷ l) (rest same)
outside_whole from to at (Some row ∷ cells) same = one (is_between from to at) same (outside_whole from to (at + 1) cells) (outside_few from to (at + 1) cells)
  where
    one : (b : Bool) → filled_count ((if b then None else Some row) ∷ cells_outside from to (at + 1) cells) ≡ suc (filled_count cells)
        → (filled_count (cells_outside from to (at + 1) cells) ≡ filled_count cells → cells_outside from to (at + 1) cells ≡ cells)
        → filled_count (cells_outside from to (at + 1) cells) ≤ filled_count cells
        → (if b then None else Some row) ∷ cells_outside from to (at + 1) cells ≡ Some row ∷ cells
    one true same rest few = absurd (omega (arith, few, same))
    one false same rest few = ap (λ (l : List Cell). Some row ∷ l) (rest (omega (arith, same)))
