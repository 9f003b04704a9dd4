-- Rows at offsets that aren't hidden, by the cells and the pages on which they stand.
use Rattle.std.proofs.Common.{◌≡◌, ℕ, zero, suc, ◌+◌, ◌<◌, ◌≤◌, Bool, true, false, cond, not, Some, None, List, [], ◌∷◌, ◌++◌, length, refl, sym, ap, ◌∙◌, arith}
use Rattle.std.specs.Ordering.{is_eq, nat_cmp}
use Rattle.std.proofs.lemmas.List.Elements.{filter-append}
use Rattle.ts_row.specs.Row.{Row}
use Rattle.ts_regular.specs.RegularPage.{Cell, OffsetElement, element_at, elements_from, seen}
use Rattle.ts_regular.specs.OnePage.{cell_at}
use Rattle.ts_regular.proofs.OffsetLemmas.{AreLess, AreMore, at_below, at_same, none_more}
use Rattle.ts_regular.proofs.CellsLemmas.{less_cells, more_cells}
use Rattle.ts_clip.specs.Numbered.{seen_at, seen_in}

-- those of lesser and of greater offsets
none_less : (n : ℕ) (es : List OffsetElement) → AreLess n es → element_at n es ≡ None
none_less n [] less = refl
none_less n (e ∷ es) less = at_below n e es less.0 ∙ none_less n es less.1

more_seen : (n : ℕ) (es : List OffsetElement) → AreMore n es → AreMore n (seen es)
more_seen n [] more = tt
more_seen n (e ∷ es) more = one (not e.1.hidden) (more_seen n es more.1)
  where
    one : (b : Bool) → AreMore n (seen es) → AreMore n (cond b (e ∷ seen es) (seen es))
    one true rest = (more.0, rest)
    one false rest = rest

less_seen : (n : ℕ) (es : List OffsetElement) → AreLess n es → AreLess n (seen es)
less_seen n [] less = tt
less_seen n (e ∷ es) less = one (not e.1.hidden) (less_seen n es less.1)
  where
    one : (b : Bool) → AreLess n (seen es) → AreLess n (cond b (e ∷ seen es) (seen es))
    one true rest = (less.0, rest)
    one false rest = rest

pub none_before : (n : ℕ) (es : List OffsetElement) → AreLess n es → seen_at es n ≡ None
none_before n es less = none_less n (seen es) (less_seen n es less)

pub none_behind : (n : ℕ) (es : List OffsetElement) → AreMore n es → seen_at es n ≡ None
none_behind n es more = none_more n (seen es) (more_seen n es more)

-- one element, hidden or not
pub by_hidden : (b : Bool) (P : Type 0) → (b ≡ true → P) → (b ≡ false → P) → P
by_hidden true P hidden shown = hidden refl
by_hidden false P hidden shown = shown refl

first_hidden : (n at : ℕ) (row : Row) (es : List OffsetElement) → row.hidden ≡ true → seen_at ((at, row) ∷ es) n ≡ seen_at es n
first_hidden n at row es hidden = rw hidden refl

first_shown : (n at : ℕ) (row : Row) (es : List OffsetElement) → row.hidden ≡ false → seen_at ((at, row) ∷ es) n ≡ element_at n ((at, row) ∷ seen es)
first_shown n at row es shown = rw shown refl

pub row_hidden : (row : Row) → row.hidden ≡ true → seen_in (Some row) ≡ None
row_hidden row hidden = rw hidden refl

pub row_shown : (row : Row) → row.hidden ≡ false → seen_in (Some row) ≡ Some row
row_shown row shown = rw shown refl

-- the row of the cell at an offset
pub seen_found : (at i n : ℕ) (cells : List Cell) → n ≡ at + i → i < length cells → seen_at (elements_from at cells) n ≡ seen_in (cell_at cells i)
seen_found at i n [] is within = absurd (omega (arith, within))
seen_found at zero n (None ∷ cells) is within = none_behind n (elements_from (at + 1) cells) (more_cells n (at + 1) cells (omega (arith, is)))
seen_found at zero n (Some row ∷ cells) is within =
    let rest = elements_from (at + 1) cells in
    by_hidden row.hidden (seen_at ((at, row) ∷ rest) n ≡ seen_in (Some row))
    (λ hidden. first_hidden n at row rest hidden ∙ none_behind n rest (more_cells n (at + 1) cells (omega (arith, is))) ∙ sym (row_hidden row hidden))
    (λ shown. first_shown n at row rest shown ∙ at_same n (at, row) (seen rest) (omega (arith, is)) ∙ sym (row_shown row shown))
seen_found at (suc i) n (None ∷ cells) is within = seen_found (at + 1) i n cells (omega (arith, is)) (omega (arith, within))
seen_found at (suc i) n (Some row ∷ cells) is within =
    let rest = elements_from (at + 1) cells in
    let found = seen_found (at + 1) i n cells (omega (arith, is)) (omega (arith, within)) in
    by_hidden row.hidden (seen_at ((at, row) ∷ rest) n ≡ seen_in (cell_at cells i))
    (λ hidden. first_hidden n at row rest hidden ∙ found)
    (λ shown. first_shown n at row rest shown ∙ at_below n (at, row) (seen rest) (omega (arith, is)) ∙ found)

pub cells_before : (at n : ℕ) (cells : List Cell) → at + length cells ≤ n → seen_at (elements_from at cells) n ≡ None
cells_before at n cells low = none_before n (elements_from at cells) (less_cells n at cells low)

pub cells_behind : (at n : ℕ) (cells : List Cell) → n < at → seen_at (elements_from at cells) n ≡ None
cells_behind at n cells high = none_behind n (elements_from at cells) (more_cells n at cells high)

-- of two lists one after the other, where one has none at an offset
first_none : (n : ℕ) (xs ys : List OffsetElement) → element_at n xs ≡ None → element_at n (xs ++ ys) ≡ element_at n ys
first_none n [] ys none = refl
first_none n (x ∷ xs) ys none = one (is_eq (nat_cmp n x.0)) none (first_none n xs ys)
  where
    one : (b : Bool) → cond b (Some x.1) (element_at n xs) ≡ None → (element_at n xs ≡ None → element_at n (xs ++ ys) ≡ element_at n ys) → cond b (Some x.1) (element_at n (xs ++ ys)) ≡ element_at n ys
    one true none rest = absurd (cc)
    one false none rest = rest none

second_none : (n : ℕ) (xs ys : List OffsetElement) → element_at n ys ≡ None → element_at n (xs ++ ys) ≡ element_at n xs
second_none n [] ys none = none
second_none n (x ∷ xs) ys none = ap (cond (is_eq (nat_cmp n x.0)) (Some x.1)) (second_none n xs ys none)

pub seen_both : (xs ys : List OffsetElement) → seen (xs ++ ys) ≡ seen xs ++ seen ys
seen_both xs ys = filter-append (λ (e : OffsetElement). not e.1.hidden) xs ys

pub seen_second : (n : ℕ) (xs ys : List OffsetElement) → seen_at xs n ≡ None → seen_at (xs ++ ys) n ≡ seen_at ys n
seen_second n xs ys none = ap (element_at n) (seen_both xs ys) ∙ first_none n (seen xs) (seen ys) none

pub seen_first : (n : ℕ) (xs ys : List OffsetElement) → seen_at ys n ≡ None → seen_at (xs ++ ys) n ≡ seen_at xs n
seen_first n xs ys none = ap (element_at n) (seen_both xs ys) ∙ second_none n (seen xs) (seen ys) none
