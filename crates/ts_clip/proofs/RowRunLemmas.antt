-- A run of cells behind the head of a page, as it is handed on: whole cells, and the rows in them.
use Rattle.std.proofs.Common.{◌≡◌, ℕ, zero, suc, ◌+◌, ◌-◌, ◌*◌, ◌≤◌, Option, Some, None, List, [], ◌∷◌, ◌++◌, length, map, take, drop, replicate, refl, sym, ap, subst, ◌∙◌, arith, append_assoc, length-drop}
use Rattle.std.specs.List.{flat_map}
use Rattle.std.proofs.lemmas.Grind.{flat_map-append}
use Rattle.std.proofs.lemmas.List.{take-append-drop, take_at, drop_at, length-take, length-take-le}
use Rattle.std.proofs.lemmas.List.Concat.{flat_map-cons}
use Rattle.ts_row.specs.declared.kind.Column.{Column}
use Rattle.ts_row.specs.Row.{Row, width_of, Element}
use Rattle.ts_cells.specs.IrregularPage.{cell_bytes as element_bytes, cell_size as element_size, AreElements, cells_bytes as element_cells, behind_head as chain_behind}
use Rattle.ts_cells.proofs.PageLemmas.{length-cell_bytes, length-cells_bytes}
use Rattle.ts_regular.specs.RegularPage.{Cell, FitsCell, cell_bytes, cell_size, AreCells, cells_bytes, behind_head as grid_behind}
use Rattle.ts_regular.proofs.BytesLemmas.{length-cell, length-cells}
use Rattle.ts_entry.specs.Rows.{IsCellWith, AreCellsWith}

-- cells of one size, from one number on and before another
module _ (size first last : ℕ) (order : first ≤ last) where
  bytes_of : size * last ≡ size * first + size * (last - first)
  bytes_of = ap (λ (n : ℕ). size * n) (let sum : last ≡ first + (last - first) = omega (arith, order) in sum) ∙ (let parts : size * (first + (last - first)) ≡ size * first + size * (last - first) = grind arith in parts)

  pub run_whole : (n : ℕ) (behind : List ℕ) → size ≡ n → n * last ≤ length behind → length (take (size * last - size * first) (drop (size * first) behind)) ≡ (last - first) * n
  run_whole n behind same fit =
      let turned : size * (last - first) ≡ (last - first) * size = grind arith in
      let within : size * last ≤ length behind = subst (λ (k : ℕ). k * last ≤ length behind) (sym same) fit in
      let long : length (take (size * last - size * first) (drop (size * first) behind)) ≡ (last - first) * size =
      omega (arith, bytes_of, turned, within, length-take (size * last - size * first) (drop (size * first) behind), length-drop (size * first) behind) in
      long ∙ ap (λ (k : ℕ). (last - first) * k) same

  run_is : (front mid rest behind : List ℕ) → behind ≡ front ++ (mid ++ rest) → length front ≡ size * first → length mid ≡ size * (last - first) → take (size * last - size * first) (drop (size * first) behind) ≡ mid
  run_is front mid rest behind parts before own =
      ap (λ (l : List ℕ). take (size * last - size * first) (drop (size * first) l)) parts
      ∙ ap (take (size * last - size * first)) (drop_at front (mid ++ rest) (size * first) before)
      ∙ take_at mid rest (size * last - size * first) (omega (arith, own, bytes_of))

-- of elements and of cells some, and those behind them
elements_first : (columns : List Column) (n : ℕ) (es : List Element) → AreElements columns es → AreElements columns (take n es)
elements_first columns zero es are = tt
elements_first columns (suc n) [] are = tt
elements_first columns (suc n) (e ∷ es) are = (are.0, elements_first columns n es are.1)

elements_others : (columns : List Column) (n : ℕ) (es : List Element) → AreElements columns es → AreElements columns (drop n es)
elements_others columns zero es are = are
elements_others columns (suc n) [] are = tt
elements_others columns (suc n) (e ∷ es) are = elements_others columns n es are.1

cells_first : (columns : List Column) (n : ℕ) (cells : List Cell) → AreCells columns cells → AreCells columns (take n cells)
cells_first columns zero cells are = tt
cells_first columns (suc n) [] are = tt
cells_first columns (suc n) (cell ∷ cells) are = (are.0, cells_first columns n cells are.1)

cells_others : (columns : List Column) (n : ℕ) (cells : List Cell) → AreCells columns cells → AreCells columns (drop n cells)
cells_others columns zero cells are = are
cells_others columns (suc n) [] are = tt
cells_others columns (suc n) (cell ∷ cells) are = cells_others columns n cells are.1

-- the bytes of a list in three parts, and others behind them
in_parts : {A : Type 0} (f : A → List ℕ) (n : ℕ) (xs : List A) → flat_map f xs ≡ flat_map f (take n xs) ++ flat_map f (drop n xs)
in_parts f n xs = ap (flat_map f) (sym (take-append-drop n xs)) ∙ flat_map-append f (take n xs) (drop n xs)

three_parts : {A : Type 0} (f : A → List ℕ) (n k : ℕ) (xs : List A) (tail : List ℕ) → flat_map f xs ++ tail ≡ flat_map f (take n xs) ++ (flat_map f (take k (drop n xs)) ++ (flat_map f (drop k (drop n xs)) ++ tail))
three_parts f n k xs tail =
    let front = flat_map f (take n xs) in
    let mid = flat_map f (take k (drop n xs)) in
    let rest = flat_map f (drop k (drop n xs)) in
    ap (λ (l : List ℕ). l ++ tail) (in_parts f n xs ∙ ap (λ (l : List ℕ). front ++ l) (in_parts f k (drop n xs)))
    ∙ append_assoc front (mid ++ rest) tail ∙ ap (λ (l : List ℕ). front ++ l) (append_assoc mid rest tail)

-- how many elements or cells there are in a part
length-part : {A : Type 0} (n k : ℕ) (xs : List A) → n + k ≤ length xs → length (take k (drop n xs)) ≡ k
length-part n k xs within = length-take-le k (drop n xs) (omega (arith, length-drop n xs, within))

-- one cell in front of others
next_cell : (columns : List Column) (front : ℕ) (cell others : List ℕ) (found : Option Row) (rest : List (Option Row)) → length cell ≡ front + width_of columns → IsCellWith columns front cell found → AreCellsWith columns front others rest
    → AreCellsWith columns front (cell ++ others) (found ∷ rest)
next_cell columns front cell others found rest long is are = (
  subst (λ (l : List ℕ). IsCellWith columns front l found) (sym (take_at cell others (front + width_of columns) long)) is,
  subst (λ (l : List ℕ). AreCellsWith columns front l rest) (sym (drop_at cell others (front + width_of columns) long)) are,
)

-- the rows in the cells of elements
abbrev pub found_of : List Element → List (Option Row)
found_of es = map (λ e. Some e.1) es

elements_found : (columns : List Column) (es : List Element) → AreElements columns es → AreCellsWith columns 9 (element_cells columns es) (found_of es)
elements_found columns [] are = refl
elements_found columns (e ∷ es) are =
    subst (λ (l : List ℕ). AreCellsWith columns 9 l (found_of (e ∷ es))) (sym (flat_map-cons (element_bytes columns) e es))
    (next_cell columns 9 (element_bytes columns e) (element_cells columns es) (Some e.1) (found_of es) (omega (arith, length-cell_bytes columns e are.0)) (refl, are.0.row, refl) (elements_found columns es are.1))

-- and in cells on a grid
cells_found : (columns : List Column) (cells : List Cell) → AreCells columns cells → AreCellsWith columns 1 (cells_bytes columns cells) cells
cells_found columns [] are = refl
cells_found columns (cell ∷ cells) are =
    subst (λ (l : List ℕ). AreCellsWith columns 1 l (cell ∷ cells)) (sym (flat_map-cons (cell_bytes columns) cell cells))
    (next_cell columns 1 (cell_bytes columns cell) (cells_bytes columns cells) cell cells (omega (arith, length-cell columns cell are.0)) (one cell are.0) (cells_found columns cells are.1))
  where
    one : (c : Cell) → FitsCell columns c → IsCellWith columns 1 (cell_bytes columns c) c
    one None fit = refl
    one (Some row) fit = (refl, fit, refl)

-- a run of the cells of elements is handed on
module _ (columns : List Column) (size first last : ℕ) (es : List Element) (behind : List ℕ) (are : AreElements columns es) (order : first ≤ last) (within : last ≤ length es) (same : behind ≡ chain_behind columns es) (is : size ≡ element_size columns) where
  pub elements_there : take (size * last - size * first) (drop (size * first) behind) ≡ element_cells columns (take (last - first) (drop first es))
  elements_there =
      let front : List Element = take first es in
      let mid : List Element = take (last - first) (drop first es) in
      let zeros : List ℕ = replicate (4064 - element_size columns * length es) 0 in
      let before : length (element_cells columns front) ≡ size * first =
      length-cells_bytes columns front (elements_first columns first es are) ∙ (λ j. sym is j * length-take-le first es (omega (arith, order, within)) j) in
      let own : length (element_cells columns mid) ≡ size * (last - first) =
      length-cells_bytes columns mid (elements_first columns (last - first) (drop first es) (elements_others columns first es are))
      ∙ (λ j. sym is j * length-part first (last - first) es (omega (arith, order, within)) j) in
      run_is size first last order (element_cells columns front) (element_cells columns mid) (element_cells columns (drop (last - first) (drop first es)) ++ zeros) behind
      (same ∙ three_parts (element_bytes columns) first (last - first) es zeros) before own

  pub elements_mid : AreElements columns (take (last - first) (drop first es))
  elements_mid = elements_first columns (last - first) (drop first es) (elements_others columns first es are)

  pub elements_run : AreCellsWith columns 9 (take (size * last - size * first) (drop (size * first) behind)) (found_of (take (last - first) (drop first es)))
  elements_run =
      let mid : List Element = take (last - first) (drop first es) in
      subst (λ (l : List ℕ). AreCellsWith columns 9 l (found_of mid)) (sym elements_there)
      (elements_found columns mid (elements_first columns (last - first) (drop first es) (elements_others columns first es are)))

-- and one of cells on a grid
module _ (columns : List Column) (size first last : ℕ) (cells : List Cell) (behind : List ℕ) (are : AreCells columns cells) (order : first ≤ last) (within : last ≤ length cells) (same : behind ≡ grid_behind columns cells) (is : size ≡ cell_size columns) where
  cells_there : take (size * last - size * first) (drop (size * first) behind) ≡ cells_bytes columns (take (last - first) (drop first cells))
  cells_there =
      let front : List Cell = take first cells in
      let mid : List Cell = take (last - first) (drop first cells) in
      let zeros : List ℕ = replicate (4064 - cell_size columns * length cells) 0 in
      let before : length (cells_bytes columns front) ≡ size * first =
      length-cells columns front (cells_first columns first cells are) ∙ (λ j. sym is j * length-take-le first cells (omega (arith, order, within)) j) in
      let own : length (cells_bytes columns mid) ≡ size * (last - first) =
      length-cells columns mid (cells_first columns (last - first) (drop first cells) (cells_others columns first cells are))
      ∙ (λ j. sym is j * length-part first (last - first) cells (omega (arith, order, within)) j) in
      run_is size first last order (cells_bytes columns front) (cells_bytes columns mid) (cells_bytes columns (drop (last - first) (drop first cells)) ++ zeros) behind
      (same ∙ three_parts (cell_bytes columns) first (last - first) cells zeros) before own

  pub cells_run : AreCellsWith columns 1 (take (size * last - size * first) (drop (size * first) behind)) (take (last - first) (drop first cells))
  cells_run =
      let mid : List Cell = take (last - first) (drop first cells) in
      subst (λ (l : List ℕ). AreCellsWith columns 1 l mid) (sym cells_there)
      (cells_found columns mid (cells_first columns (last - first) (drop first cells) (cells_others columns first cells are)))
