-- The cell of an index, and the row in it.
use Rattle.std.proofs.Common.{◌≡◌, ℕ, zero, suc, ◌+◌, ◌-◌, ◌*◌, Some, List, [], ◌∷◌, ◌++◌, length, take, drop, refl, sym, ap, subst, ◌∙◌, arith}
use Rattle.std.specs.List.{slice_get}
use Rattle.std.proofs.lemmas.List.{take_at}
use Rattle.std.proofs.lemmas.Option.{slice_get_within}
use Rattle.std.proofs.Math.Seq.{take-length}
use Rattle.ts_row.specs.declared.kind.Column.{Column}
use Rattle.ts_row.specs.Row.{width_of}
use Rattle.ts_row.specs.Encoding.{row_bytes}
use Rattle.ts_cells.specs.IrregularPage.{Element, IsElement, cell_bytes, cell_size, AreElements, behind_head}
use Rattle.ts_cells.proofs.PageLemmas.{length-cell_bytes}
use Rattle.ts_irregular.proofs.BytesLemmas.{Part, part}
use Rattle.ts_irregular.proofs.SeeLemmas.{some_one}

-- the element at an index, by what stands before it
pub at_index : (front : List Element) (e : Element) (after : List Element) → slice_get (front ++ e ∷ after) (length front) ≡ Some e
at_index [] e after = refl
at_index (f ∷ front) e after = at_index front e after

pub element_is : (columns : List Column) (i : ℕ) (es : List Element) (behind : List ℕ) (p : Part columns i es behind) → slice_get es i ≡ Some p.element
element_is columns i es behind p =
    ap (slice_get es) (sym p.count) ∙ ap (λ (l : List Element). slice_get l (length (take i es))) p.whole ∙ at_index (take i es) p.element p.after

pub element_among : (columns : List Column) (i : ℕ) (es : List Element) (e : Element) → AreElements columns es → slice_get es i ≡ Some e → IsElement columns e
element_among columns i [] e are at = absurd (cc)
element_among columns zero (x ∷ es) e are at = subst (IsElement columns) (some_one at) are.0
element_among columns (suc i) (x ∷ es) e are at = element_among columns i es e are.1 at

-- its cell
pub cell_of : (columns : List Column) (size i : ℕ) (es : List Element) (e : Element) (behind : List ℕ) → AreElements columns es → slice_get es i ≡ Some e → behind ≡ behind_head columns es → size ≡ cell_size columns
    → take (size * i + size - size * i) (drop (size * i) behind) ≡ cell_bytes columns e
cell_of columns size i es e behind are at same is =
    let p = part columns i es behind are (slice_get_within es i e at) same in
    let own : p.element ≡ e = some_one (sym (element_is columns i es behind p) ∙ at) in
    let long : length (cell_bytes columns p.element) ≡ size * i + size - size * i = omega (arith, length-cell_bytes columns p.element p.is, is) in
    ap (take (size * i + size - size * i)) (ap (λ (s : ℕ). drop (s * i) behind) is ∙ p.bytes)
    ∙ take_at (cell_bytes columns p.element) p.tail (size * i + size - size * i) long ∙ ap (cell_bytes columns) own

-- the row at the end of a cell
row_in : (columns : List Column) (e : Element) → drop 9 (cell_bytes columns e) ≡ row_bytes columns e.1
row_in columns e = refl

pub row_behind : (columns : List Column) (e : Element) (cell : List ℕ) (width : ℕ) → IsElement columns e → cell ≡ cell_bytes columns e → width ≡ width_of columns
    → take (length cell - (length cell - width)) (drop (length cell - width) cell) ≡ row_bytes columns e.1
row_behind columns e cell width is same wide =
    let long : length cell ≡ cell_size columns = ap length same ∙ length-cell_bytes columns e is in
    let at : length cell - width ≡ 9 = omega (arith, long, wide) in
    let row : drop (length cell - width) cell ≡ row_bytes columns e.1 = (λ j. drop (at j) (same j)) ∙ row_in columns e in
    let size : length (row_bytes columns e.1) ≡ length cell - (length cell - width) = omega (arith, length-cell_bytes columns e is, at, long, wide) in
    ap (take (length cell - (length cell - width))) row ∙ ap (λ (n : ℕ). take n (row_bytes columns e.1)) (sym size) ∙ take-length (row_bytes columns e.1)
