-- A cell of an element, and the cells from one index on and before another.
use Rattle.std.proofs.Common.{◌≡◌, ℕ, ◌+◌, ◌-◌, ◌*◌, ◌<◌, ◌≤◌, ℤ, Option, Some, None, cond, not, true, false, inl, inr, List, [], ◌∷◌, ◌++◌, length, take, drop, refl, sym, ap, ◌∙◌, arith, append-nil, length-append, of_z, w64}
use Rattle.std.specs.Prelude.{slice_get}
use Rattle.std.specs.Int.{from_be_bytes, cast_signed}
use Rattle.std.proofs.lemmas.Bool.{cases_lt}
use Rattle.std.proofs.lemmas.Int.{ints, to_z-of_z}
use Rattle.std.proofs.lemmas.List.{drop_at, drop-drop}
use Rattle.std.proofs.lemmas.List.Elements.{filter-append}
use Rattle.std.proofs.Math.Seq.{take-length, take-add, take-append-add}
use Rattle.ts_base.specs.Moment.{IsStamp, stamp_if_any}
use Rattle.ts_space.proofs.PlaceLemmas.{int_lt_no}
use Rattle.ts_row.specs.declared.kind.Column.{Column}
use Rattle.ts_row.specs.Encoding.{row_bytes}
use Rattle.ts_row.specs.Row.{Element, seen}
use Rattle.ts_cells.specs.IrregularPage.{IsElement, cell_bytes, stamp_bytes}
use Rattle.ts_cells.proofs.CellLemmas.{units_back}
use Rattle.ts_cells.proofs.PageLemmas.{length-cell_bytes}
use Rattle.ts_irregular.proofs.BytesLemmas.{Part}
use Rattle.ts_entry.specs.Entry.{first_seen, AreSeenBytes}

-- a stamp is one again
stamp_is : (z : ℤ) → IsStamp z → stamp_if_any z ≡ Some z
stamp_is z is = λ i. cond (int_lt_no z _ is.0 i) None (cond (int_lt_no _ z is.1 i) None (Some z))

stamp_in : (columns : List Column) (e : Element) → take 8 (drop 1 (cell_bytes columns e)) ≡ stamp_bytes e.0
stamp_in columns e = refl

row_in : (columns : List Column) (e : Element) → drop 9 (cell_bytes columns e) ≡ row_bytes columns e.1
row_in columns e = refl

-- of a cell of an element: the stamp that is read, and the bytes of the row
module _ (columns : List Column) (e : Element) (cell : List ℕ) (is : IsElement columns e) (same : cell ≡ cell_bytes columns e) where
  pub stamp_read : (size : ℕ) (units : ℤ) → units ≡ cast_signed w64 (from_be_bytes w64 (take 8 (drop (size * 0 + 1) cell))) → stamp_if_any (cast_signed w64 (of_z w64 units)) ≡ Some e.0
  stamp_read size units read =
      let at : size * 0 + 1 ≡ 1 = omega arith in
      let units_is : units ≡ e.0 =
      read ∙ (λ j. cast_signed w64 (from_be_bytes w64 (take 8 (drop (at j) (same j))))) ∙ ap (λ (l : List ℕ). cast_signed w64 (from_be_bytes w64 l)) (stamp_in columns e) ∙ units_back e.0 is.stamp in
      let stamp = is.stamp in
      ap stamp_if_any (to_z-of_z w64 units (omega (arith, ints, units_is, stamp.0, stamp.1)) ∙ units_is) ∙ stamp_is e.0 stamp

  pub row_read : e.1.hidden ≡ false → AreSeenBytes columns (take (length cell - 9) (drop 9 cell)) e.1
  row_read shown =
      let row : drop 9 cell ≡ row_bytes columns e.1 = ap (drop 9) same ∙ row_in columns e in
      let size : length (row_bytes columns e.1) ≡ length cell - 9 = omega (arith, ap length same, length-cell_bytes columns e is) in
      record {
        fits = is.row;
        seen = shown;
        is = sym (ap (take (length cell - 9)) row ∙ ap (λ (n : ℕ). take n (row_bytes columns e.1)) (sym size) ∙ take-length (row_bytes columns e.1));
      }

-- the elements of the cells from one index on and before another, in two parts
pub cells_both : (first i last : ℕ) (es : List Element) → first ≤ i → i ≤ last → take (last - first) (drop first es) ≡ take (i - first) (drop first es) ++ take (last - i) (drop i es)
cells_both first i last es low high =
    ap (λ (n : ℕ). take n (drop first es)) (let sum : last - first ≡ (i - first) + (last - i) = omega (arith, low, high) in sum)
    ∙ take-add (i - first) (last - i) (drop first es)
    ∙ ap (λ (l : List Element). take (i - first) (drop first es) ++ take (last - i) l) (drop-drop (i - first) first es ∙ ap (λ (n : ℕ). drop n es) (let sum : first + (i - first) ≡ i = omega (arith, low) in sum))

-- and with one more
pub cells_next : (columns : List Column) (first i : ℕ) (es : List Element) (behind : List ℕ) (p : Part columns i es behind) → first ≤ i → take (i + 1 - first) (drop first es) ≡ take (i - first) (drop first es) ++ p.element ∷ []
cells_next columns first i es behind p low =
    cells_both first i (i + 1) es low (omega arith)
    ∙ ap (λ (l : List Element). take (i - first) (drop first es) ++ l)
    ((λ j. take (let one : i + 1 - i ≡ 1 = omega arith in one j) ((ap (drop i) p.whole ∙ drop_at (take i es) (p.element ∷ p.after) i p.count) j)))

-- none
pub cells_none : (first : ℕ) (es : List Element) → [] ≡ seen (take (first - first) (drop first es))
cells_none first es = ap (λ (n : ℕ). seen (take n (drop first es))) (let none : 0 ≡ first - first = omega arith in none)

-- those that aren't hidden
pub seen_both : (xs ys : List Element) → seen (xs ++ ys) ≡ seen xs ++ seen ys
seen_both xs ys = filter-append (λ (e : Element). not e.1.hidden) xs ys

-- where the walk is over
pub cells_end : (first i last : ℕ) (es : List Element) → first ≤ i → last ≤ i → (first ≤ last → i ≤ last) → (last ≤ first → i ≡ first) → take (i - first) (drop first es) ≡ take (last - first) (drop first es)
cells_end first i last es low past end stay = ap (λ (n : ℕ). take n (drop first es)) (elim (cases_lt first last) [ inl less ↦ up less | inr more ↦ none more ])
  where
    up : first < last → i - first ≡ last - first
    up less = let top = end (omega (arith, less)) in omega (arith, low, past, top)

    none : last ≤ first → i - first ≡ last - first
    none more = let same = stay more in omega (arith, more, same)

-- one more that is hidden, or isn't
pub seen_hidden : (xs : List Element) (e : Element) → e.1.hidden ≡ true → seen (xs ++ e ∷ []) ≡ seen xs
seen_hidden xs e hidden = seen_both xs (e ∷ []) ∙ ap (λ h. seen xs ++ cond (not h) (e ∷ []) []) hidden ∙ append-nil (seen xs)

pub seen_shown : (xs : List Element) (e : Element) → e.1.hidden ≡ false → length (seen (xs ++ e ∷ [])) ≡ length (seen xs) + 1
seen_shown xs e shown = ap length (seen_both xs (e ∷ []) ∙ ap (λ h. seen xs ++ cond (not h) (e ∷ []) []) shown) ∙ length-append (seen xs) (e ∷ [])

-- the first that isn't hidden, where those before it are
module _ (columns : List Column) (i : ℕ) (es : List Element) (behind : List ℕ) (p : Part columns i es behind) (none : seen (take i es) ≡ []) where
  pub none_next : p.element.1.hidden ≡ true → seen (take (i + 1) es) ≡ []
  none_next hidden =
      let next : take (i + 1) es ≡ take i es ++ p.element ∷ [] =
      (λ j. take (sym p.count j + 1) (p.whole j)) ∙ take-append-add (take i es) (p.element ∷ p.after) 1 in
      ap seen next ∙ seen_hidden (take i es) p.element hidden ∙ none

  pub first_here : p.element.1.hidden ≡ false → ◌≡◌ {A = Option Element} (Some p.element) (first_seen es)
  first_here shown =
      sym (
      ap first_seen p.whole ∙ ap (λ (l : List Element). slice_get l 0) (seen_both (take i es) (p.element ∷ p.after))
      ∙ ap (λ (l : List Element). slice_get (l ++ seen (p.element ∷ p.after)) 0) none
      ∙ ap (λ h. slice_get (cond (not h) (p.element ∷ seen p.after) (seen p.after)) 0) shown
      )
