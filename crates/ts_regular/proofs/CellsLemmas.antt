-- The elements in cells: an edit of a cell is that of the element at its offset.
use Rattle.std.proofs.Common.{◌≡◌, ℕ, zero, suc, ◌+◌, ◌<◌, ◌≤◌, Bool, true, false, IsTrue, Some, None, IsSome, is_some, List, [], ◌∷◌, ◌++◌, length, refl, sym, ap, ◌∙◌, arith}
use Rattle.ts_row.specs.Row.{Row}
use Rattle.ts_regular.specs.RegularPage.{Cell, OffsetElement, AreRising, elements_from, element_at, with_element, without_element, filled_count}
use Rattle.ts_regular.specs.OnePage.{cell_at, with_row, without_row}
use Rattle.ts_regular.proofs.OffsetLemmas.{AreLess, AreMore, at_below, at_same, with_below, with_same, without_other, without_same, none_more, first_more, kept_more, rising_first, more_both}

-- cells from a greater offset on
pub more_cells : (n at : ℕ) (cells : List Cell) → n < at → AreMore n (elements_from at cells)
more_cells n at [] above = tt
more_cells n at (None ∷ cells) above = more_cells n (at + 1) cells (omega (arith, above))
more_cells n at (Some row ∷ cells) above = (above, more_cells n (at + 1) cells (omega (arith, above)))

-- cells up to a lesser one
pub less_cells : (n at : ℕ) (cells : List Cell) → at + length cells ≤ n → AreLess n (elements_from at cells)
less_cells n at [] below = tt
less_cells n at (None ∷ cells) below = less_cells n (at + 1) cells (omega (arith, below))
less_cells n at (Some row ∷ cells) below = (omega (arith, below), less_cells n (at + 1) cells (omega (arith, below)))

pub found_in : (at i n : ℕ) (cells : List Cell) → n ≡ at + i → i < length cells → element_at n (elements_from at cells) ≡ cell_at cells i
found_in at i n [] is within = absurd (omega (arith, within))
found_in at zero n (None ∷ cells) is within = none_more n (elements_from (at + 1) cells) (more_cells n (at + 1) cells (omega (arith, is)))
found_in at zero n (Some row ∷ cells) is within = at_same n (at, row) (elements_from (at + 1) cells) (omega (arith, is))
found_in at (suc i) n (None ∷ cells) is within = found_in (at + 1) i n cells (omega (arith, is)) (omega (arith, within))
found_in at (suc i) n (Some row ∷ cells) is within =
    at_below n (at, row) (elements_from (at + 1) cells) (omega (arith, is)) ∙ found_in (at + 1) i n cells (omega (arith, is)) (omega (arith, within))

pub put_in : (at i n : ℕ) (row : Row) (cells : List Cell) → n ≡ at + i → i < length cells → elements_from at (with_row i row cells) ≡ with_element n row (elements_from at cells)
put_in at i n row [] is within = absurd (omega (arith, within))
put_in at zero n row (None ∷ cells) is within =
    let same : at ≡ n = omega (arith, is) in
    ap (λ (k : ℕ). (k, row) ∷ elements_from (at + 1) cells) same ∙ sym (first_more n row (elements_from (at + 1) cells) (more_cells n (at + 1) cells (omega (arith, is))))
put_in at zero n row (Some old ∷ cells) is within = sym (with_same n row (at, old) (elements_from (at + 1) cells) (omega (arith, is)))
put_in at (suc i) n row (None ∷ cells) is within = put_in (at + 1) i n row cells (omega (arith, is)) (omega (arith, within))
put_in at (suc i) n row (Some old ∷ cells) is within =
    ap (λ (l : List OffsetElement). (at, old) ∷ l) (put_in (at + 1) i n row cells (omega (arith, is)) (omega (arith, within)))
    ∙ sym (with_below n row (at, old) (elements_from (at + 1) cells) (omega (arith, is)))

pub taken_in : (at i n : ℕ) (cells : List Cell) → n ≡ at + i → i < length cells → elements_from at (without_row i cells) ≡ without_element n (elements_from at cells)
taken_in at i n [] is within = absurd (omega (arith, within))
taken_in at zero n (None ∷ cells) is within = sym (kept_more n (elements_from (at + 1) cells) (more_cells n (at + 1) cells (omega (arith, is))))
taken_in at zero n (Some old ∷ cells) is within =
    sym (without_same n (at, old) (elements_from (at + 1) cells) (omega (arith, is)) ∙ kept_more n (elements_from (at + 1) cells) (more_cells n (at + 1) cells (omega (arith, is))))
taken_in at (suc i) n (None ∷ cells) is within = taken_in (at + 1) i n cells (omega (arith, is)) (omega (arith, within))
taken_in at (suc i) n (Some old ∷ cells) is within =
    ap (λ (l : List OffsetElement). (at, old) ∷ l) (taken_in (at + 1) i n cells (omega (arith, is)) (omega (arith, within)))
    ∙ sym (without_other n (at, old) (elements_from (at + 1) cells) (λ same. omega (arith, is, same)))

pub count_in : (at : ℕ) (cells : List Cell) → length (elements_from at cells) ≡ filled_count cells
count_in at [] = refl
count_in at (None ∷ cells) = count_in (at + 1) cells
count_in at (Some row ∷ cells) = ap suc (count_in (at + 1) cells)

-- how many cells have an element after an edit of one
pub count_new : (i : ℕ) (row : Row) (cells : List Cell) → i < length cells → cell_at cells i ≡ None → filled_count (with_row i row cells) ≡ filled_count cells + 1
count_new i row [] within none = absurd (omega (arith, within))
count_new zero row (None ∷ cells) within none = omega arith
count_new zero row (Some old ∷ cells) within none = absurd (cc)
count_new (suc i) row (None ∷ cells) within none = count_new i row cells (omega (arith, within)) none
count_new (suc i) row (Some old ∷ cells) within none = let rest = count_new i row cells (omega (arith, within)) none in omega (arith, rest)

pub count_over : (i : ℕ) (row : Row) (cells : List Cell) → i < length cells → IsSome (cell_at cells i) → filled_count (with_row i row cells) ≡ filled_count cells
count_over i row [] within some = absurd (omega (arith, within))
count_over zero row (None ∷ cells) within some = absurd (cc)
count_over zero row (Some old ∷ cells) within some = refl
count_over (suc i) row (None ∷ cells) within some = count_over i row cells (omega (arith, within)) some
count_over (suc i) row (Some old ∷ cells) within some = ap suc (count_over i row cells (omega (arith, within)) some)

pub count_taken : (i : ℕ) (cells : List Cell) → i < length cells → IsSome (cell_at cells i) → filled_count (without_row i cells) + 1 ≡ filled_count cells
count_taken i [] within some = absurd (omega (arith, within))
count_taken zero (None ∷ cells) within some = absurd (cc)
count_taken zero (Some old ∷ cells) within some = omega arith
count_taken (suc i) (None ∷ cells) within some = count_taken i cells (omega (arith, within)) some
count_taken (suc i) (Some old ∷ cells) within some = let rest = count_taken i cells (omega (arith, within)) some in omega (arith, rest)

pub count_within : (cells : List Cell) → filled_count cells ≤ length cells
count_within [] = omega arith
count_within (None ∷ cells) = let rest = count_within cells in omega (arith, rest)
count_within (Some row ∷ cells) = let rest = count_within cells in omega (arith, rest)

pub count_below : (i : ℕ) (cells : List Cell) → i < length cells → cell_at cells i ≡ None → filled_count cells < length cells
count_below i [] within none = absurd (omega (arith, within))
count_below zero (None ∷ cells) within none = let rest = count_within cells in omega (arith, rest)
count_below zero (Some old ∷ cells) within none = absurd (cc)
count_below (suc i) (None ∷ cells) within none = let rest = count_below i cells (omega (arith, within)) none in omega (arith, rest)
count_below (suc i) (Some old ∷ cells) within none = let rest = count_below i cells (omega (arith, within)) none in omega (arith, rest)

-- the elements in cells rise, and so with those behind them
pub rising_cells : (at : ℕ) (cells : List Cell) (es : List OffsetElement) → ((n : ℕ) → n < at + length cells → AreMore n es) → AreRising es → AreRising (elements_from at cells ++ es)
rising_cells at [] es more rise = rise
rising_cells at (None ∷ cells) es more rise = rising_cells (at + 1) cells es (λ n below. more n (omega (arith, below))) rise
rising_cells at (Some row ∷ cells) es more rise =
    rising_first (at, row) (elements_from (at + 1) cells ++ es) (more_both at (elements_from (at + 1) cells) es (more_cells at (at + 1) cells (omega arith)) (more at (omega arith)))
    (rising_cells (at + 1) cells es (λ n below. more n (omega (arith, below))) rise)

-- a cell that was tested
pub none_there : (cell : Cell) (there : Bool) → there ≡ false → there ≡ is_some cell → cell ≡ None
none_there None there fails told = refl
none_there (Some row) there fails told = absurd (cc)

pub count_none : (i : ℕ) (cells : List Cell) → filled_count cells ≡ 0 → cell_at cells i ≡ None
count_none i [] none = refl
count_none zero (None ∷ cells) none = refl
count_none zero (Some row ∷ cells) none = absurd (omega (arith, none))
count_none (suc i) (None ∷ cells) none = count_none i cells none
count_none (suc i) (Some row ∷ cells) none = absurd (omega (arith, none))

pub count_some : (i : ℕ) (cells : List Cell) → IsSome (cell_at cells i) → 1 ≤ filled_count cells
count_some i [] some = absurd (cc)
count_some zero (None ∷ cells) some = absurd (cc)
count_some zero (Some row ∷ cells) some = omega arith
count_some (suc i) (None ∷ cells) some = count_some i cells some
count_some (suc i) (Some row ∷ cells) some = omega arith

-- how many cells have an element after a row was put into one
pub count_put : (i : ℕ) (row : Row) (cells : List Cell) (count result room : ℕ) (there : Bool) → i < length cells → there ≡ is_some (cell_at cells i) → filled_count cells ≡ count → length cells ≡ room
    → (IsTrue there → 1 ≤ count → result ≡ count) → (there ≡ false → count < room → result ≡ count + 1) → filled_count (with_row i row cells) ≡ result
count_put i row cells count result room there within told is size over new = by_cell (cell_at cells i) refl
  where
    by_cell : (cell : Cell) → cell_at cells i ≡ cell → filled_count (with_row i row cells) ≡ result
    by_cell None same =
        let none : there ≡ false = told ∙ ap is_some same in
        let below = count_below i cells within same in
        let more = count_new i row cells within same in
        let result_is = new none (omega (arith, below, is, size)) in
        omega (arith, more, result_is, is)
    by_cell (Some old) same =
        let yes : there ≡ true = told ∙ ap is_some same in
        let some : IsSome (cell_at cells i) = ap is_some same in
        let one = count_some i cells some in
        let kept = count_over i row cells within some in
        let result_is = over yes (omega (arith, one, is)) in
        omega (arith, kept, result_is, is)
