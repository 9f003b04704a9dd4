-- The cells of elements, one behind the other: each has the same size, so each is found, and no two lists have the same cells.
use Rattle.std.proofs.Common.{◌≡◌, ℕ, zero, suc, ◌+◌, ◌*◌, ◌<◌, ℤ, ◌<ℤ◌, Some, List, [], ◌∷◌, ◌++◌, length, take, drop, refl, sym, ap, subst, ◌∙◌, arith, length-append, add-one, append-nil, mul-zero}
use Rattle.std.specs.Int.{w64, from_be_bytes, cast_signed}
use Rattle.std.proofs.lemmas.Grind.{flat_map-append}
use Rattle.std.proofs.lemmas.List.{take_at, drop_at}
use Rattle.std.proofs.lemmas.List.Concat.{flat_map-cons}
use Rattle.std.proofs.Math.Seq.{take-append_seam, drop-append_seam}
use Rattle.ts_row.specs.declared.kind.Column.{Column}
use Rattle.ts_row.specs.Encoding.{row_bytes}
use Rattle.ts_row.specs.Decoding.{row_in}
use Rattle.ts_row.proofs.RowBytesLemmas.{valid, row_in-row_bytes, length-row_bytes}
use Rattle.ts_cells.specs.IrregularPage.{Element, IsElement, stamp_bytes, cell_bytes, cell_size, AreElements, AreRising, cells_bytes, last_stamp}
use Rattle.ts_cells.proofs.CellLemmas.{units_back}

-- a cell has its size
pub length-cell_bytes : (columns : List Column) (e : Element) → IsElement columns e → length (cell_bytes columns e) ≡ cell_size columns
length-cell_bytes columns e is = omega (arith, length-row_bytes columns e.1 is.row)

pub length-cells_bytes : (columns : List Column) (es : List Element) → AreElements columns es → length (cells_bytes columns es) ≡ cell_size columns * length es
length-cells_bytes columns [] are = sym (mul-zero (cell_size columns))
length-cells_bytes columns (e ∷ es) are =
    let here : cells_bytes columns (e ∷ es) ≡ cell_bytes columns e ++ cells_bytes columns es = flat_map-cons (cell_bytes columns) e es in
    let size : length (cells_bytes columns (e ∷ es)) ≡ cell_size columns + cell_size columns * length es =
    ap length here ∙ length-append (cell_bytes columns e) (cells_bytes columns es) ∙ (λ j. length-cell_bytes columns e are.0 j + length-cells_bytes columns es are.1 j) in
    size ∙ grind arith

-- two elements with one cell are one
pub cell_one : (columns : List Column) (e f : Element) → valid columns → IsElement columns e → IsElement columns f → cell_bytes columns e ≡ cell_bytes columns f → e ≡ f
cell_one columns e f kinds a b same =
    let stamps : stamp_bytes e.0 ≡ stamp_bytes f.0 = ap (λ (l : List ℕ). take 8 (drop 1 l)) same in
    let rows : row_bytes columns e.1 ≡ row_bytes columns f.1 = ap (λ (l : List ℕ). drop 9 l) same in
    let stamp : e.0 ≡ f.0 = sym (units_back e.0 a.stamp) ∙ ap (λ (l : List ℕ). cast_signed w64 (from_be_bytes w64 l)) stamps ∙ units_back f.0 b.stamp in
    let both : Some e.1 ≡ Some f.1 = sym (row_in-row_bytes columns e.1 kinds a.row) ∙ ap (row_in columns) rows ∙ row_in-row_bytes columns f.1 kinds b.row in
    let row : e.1 ≡ f.1 = cc in
    λ j. (stamp j, row j)

-- one more at the end
pub AreElements-more : (columns : List Column) (es : List Element) (e : Element) → AreElements columns es → IsElement columns e → AreElements columns (es ++ e ∷ [])
AreElements-more columns [] e are is = (is, tt)
AreElements-more columns (x ∷ es) e are is = (are.0, AreElements-more columns es e are.1 is)

pub AreRising-more : (es : List Element) (e : Element) (last : ℤ) → AreRising es → last_stamp es ≡ Some last → last <ℤ e.0 → AreRising (es ++ e ∷ [])
AreRising-more [] e last rise is later = tt
AreRising-more (x ∷ []) e last rise is later = let same : x.0 ≡ last = cc in (subst (λ (z : ℤ). z <ℤ e.0) (sym same) later, tt)
AreRising-more (x ∷ y ∷ es) e last rise is later = (rise.0, AreRising-more (y ∷ es) e last rise.1 is later)

pub last_stamp-more : (es : List Element) (e : Element) → last_stamp (es ++ e ∷ []) ≡ Some e.0
last_stamp-more [] e = refl
last_stamp-more (x ∷ []) e = refl
last_stamp-more (x ∷ y ∷ es) e = last_stamp-more (y ∷ es) e

pub cells_bytes-more : (columns : List Column) (es : List Element) (e : Element) → cells_bytes columns (es ++ e ∷ []) ≡ cells_bytes columns es ++ cell_bytes columns e
cells_bytes-more columns es e =
    flat_map-append (cell_bytes columns) es (e ∷ []) ∙ ap (λ (l : List ℕ). cells_bytes columns es ++ l) (flat_map-cons (cell_bytes columns) e [] ∙ append-nil (cell_bytes columns e))

-- one of a list, with those before it and those behind it
pub split_at : (i : ℕ) (es : List Element) → i < length es → (e : Element) × (after : List Element) × (es ≡ take i es ++ e ∷ after) × (take (i + 1) es ≡ take i es ++ e ∷ []) × (length (take i es) ≡ i)
split_at i [] within = absurd (omega arith)
split_at zero (e ∷ rest) within = (e, rest, refl, refl, refl)
split_at (suc i) (x ∷ rest) within =
    let deeper = split_at i rest (omega arith) in
    (deeper.0, deeper.1, ap (λ (l : List Element). x ∷ l) deeper.2, rw add-one (ap (λ (l : List Element). x ∷ l) (rw add-one at deeper.3)), ap suc deeper.4)

pub AreElements-front : (columns : List Column) (xs ys : List Element) → AreElements columns (xs ++ ys) → AreElements columns xs
AreElements-front columns [] ys are = tt
AreElements-front columns (x ∷ xs) ys are = (are.0, AreElements-front columns xs ys are.1)

pub AreElements-at : (columns : List Column) (xs : List Element) (e : Element) (ys : List Element) → AreElements columns (xs ++ e ∷ ys) → IsElement columns e
AreElements-at columns [] e ys are = are.0
AreElements-at columns (x ∷ xs) e ys are = AreElements-at columns xs e ys are.1

-- a later element comes after the last of those before it
pub AreRising-at : (xs : List Element) (e : Element) (ys : List Element) (last : ℤ) → AreRising (xs ++ e ∷ ys) → last_stamp xs ≡ Some last → last <ℤ e.0
AreRising-at [] e ys last rise is = absurd (cc)
AreRising-at (x ∷ []) e ys last rise is = let same : x.0 ≡ last = cc in subst (λ (z : ℤ). z <ℤ e.0) same rise.0
AreRising-at (x ∷ y ∷ xs) e ys last rise is = AreRising-at (y ∷ xs) e ys last rise.1 is

-- two lists of elements with the same cells are one
pub same_cells : (columns : List Column) (es fs : List Element) → valid columns → AreElements columns es → AreElements columns fs → length es ≡ length fs → cells_bytes columns es ≡ cells_bytes columns fs → es ≡ fs
same_cells columns [] [] kinds a b count same = refl
same_cells columns [] (f ∷ fs) kinds a b count same = absurd (omega arith)
same_cells columns (e ∷ es) [] kinds a b count same = absurd (omega arith)
same_cells columns (e ∷ es) (f ∷ fs) kinds a b count same =
    let split : cell_bytes columns e ++ cells_bytes columns es ≡ cell_bytes columns f ++ cells_bytes columns fs =
    sym (flat_map-cons (cell_bytes columns) e es) ∙ same ∙ flat_map-cons (cell_bytes columns) f fs in
    let sizes : length (cell_bytes columns e) ≡ length (cell_bytes columns f) = length-cell_bytes columns e a.0 ∙ sym (length-cell_bytes columns f b.0) in
    let first : cell_bytes columns e ≡ cell_bytes columns f =
    sym (take-append_seam (cell_bytes columns e) (cells_bytes columns es)) ∙ (λ j. take (sizes j) (split j)) ∙ take-append_seam (cell_bytes columns f) (cells_bytes columns fs) in
    let rest : cells_bytes columns es ≡ cells_bytes columns fs =
    sym (drop-append_seam (cell_bytes columns e) (cells_bytes columns es)) ∙ (λ j. drop (sizes j) (split j)) ∙ drop-append_seam (cell_bytes columns f) (cells_bytes columns fs) in
    (λ j. cell_one columns e f kinds a.0 b.0 first j ∷ same_cells columns es fs kinds a.1 b.1 (omega arith) rest j)

-- the cells before one of the elements, and its own
pub record Cut (columns : List Column) (i : ℕ) (es : List Element) : Type 0 where
  pub element : Element
  pub after : List Element
  pub is : IsElement columns element
  pub whole : es ≡ take i es ++ element ∷ after
  pub more : take (i + 1) es ≡ take i es ++ element ∷ []
  pub count : length (take i es) ≡ i
  pub before : take (cell_size columns * i) (cells_bytes columns es) ≡ cells_bytes columns (take i es)
  pub cell : take (cell_size columns) (drop (cell_size columns * i) (cells_bytes columns es)) ≡ cell_bytes columns element

pub cut : (columns : List Column) (i : ℕ) (es : List Element) → AreElements columns es → i < length es → Cut columns i es
cut columns i es are within =
    let s = split_at i es within in
    let front : List Element = take i es in
    let all : AreElements columns (front ++ s.0 ∷ s.1) = subst (AreElements columns) s.2 are in
    let is : IsElement columns s.0 = AreElements-at columns front s.0 s.1 all in
    let size : length (cells_bytes columns front) ≡ cell_size columns * i =
    length-cells_bytes columns front (AreElements-front columns front (s.0 ∷ s.1) all) ∙ ap (λ (n : ℕ). cell_size columns * n) s.4 in
    let bytes : cells_bytes columns es ≡ cells_bytes columns front ++ (cell_bytes columns s.0 ++ cells_bytes columns s.1) =
    ap (cells_bytes columns) s.2 ∙ flat_map-append (cell_bytes columns) front (s.0 ∷ s.1)
    ∙ ap (λ (l : List ℕ). cells_bytes columns front ++ l) (flat_map-cons (cell_bytes columns) s.0 s.1) in
    record {
      element = s.0;
      after = s.1;
      is = is;
      whole = s.2;
      more = s.3;
      count = s.4;
      before = ap (take (cell_size columns * i)) bytes ∙ take_at (cells_bytes columns front) (cell_bytes columns s.0 ++ cells_bytes columns s.1) (cell_size columns * i) size;
      cell = ap (λ (l : List ℕ). take (cell_size columns) (drop (cell_size columns * i) l)) bytes
          ∙ ap (take (cell_size columns)) (drop_at (cells_bytes columns front) (cell_bytes columns s.0 ++ cells_bytes columns s.1) (cell_size columns * i) size)
          ∙ take_at (cell_bytes columns s.0) (cells_bytes columns s.1) (cell_size columns) (length-cell_bytes columns s.0 is);
    }
