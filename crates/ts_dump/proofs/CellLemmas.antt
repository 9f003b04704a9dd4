-- Cells that are taken one after the other.
use Rattle.std.proofs.Common.{◌≡◌, ℕ, ◌+◌, ◌<◌, Option, Some, None, List, [], ◌∷◌, ◌++◌, length, map, take, drop, refl, sym, ap, subst, ◌∙◌, arith, append_assoc, append-nil, length-take}
use Rattle.std.specs.Prelude.{IfSome}
use Rattle.ts_row.specs.declared.kind.Column.{Column}
use Rattle.ts_row.specs.Row.{width_of, Element}
use Rattle.ts_entry.specs.declared.stamps.Stamps.{Stamps}
use Rattle.ts_entry.specs.Stamps.{HasStamp}
use Rattle.ts_entry.specs.Rows.{IsCellWith, AreCellsWith, AreStamped, AreCellsOf, elements_in, row_if_any}
use Rattle.ts_aggregate.proofs.RowLemmas.{no_cell}
use Rattle.ts_dump.specs.declared.grouping.Grouping.{Grouping}
use Rattle.ts_dump.specs.Placed.{ArePut}
use Rattle.ts_dump.specs.Elements.{texts_of_elements, one_of, TextsPut, none_taken, both_taken}

-- the elements of a cell and of those behind it
elements_cons : (f : Option Element) (fs : List (Option Element)) → elements_in (f ∷ fs) ≡ one_of f ++ elements_in fs
elements_cons None fs = refl
elements_cons (Some e) fs = refl

-- Some of the cells were taken, those of these elements, and the others not yet.
pub record Turn (key : List ℕ) (columns : List Column) (front number : ℕ) (stamps : Stamps) (rest : List ℕ)
    (found : List (Option Element)) (g : Grouping) (old : List ℕ) (h : Grouping) (now : List ℕ) : Type 0 where
  pub done : List Element
  pub others : List (Option Element)
  pub parts : elements_in found ≡ done ++ elements_in others
  pub rows : AreCellsWith columns front rest (map row_if_any others)
  pub stamped : AreStamped stamps (front + width_of columns) number rest others
  pub put : TextsPut columns key g old done key h now

module _ (key : List ℕ) (columns : List Column) (front : ℕ) (stamps : Stamps) (found : List (Option Element)) (g : Grouping) (old : List ℕ) where
  pub turn_first : (cells : List ℕ) → AreCellsOf columns front stamps cells found → Turn key columns front 0 stamps cells found g old g old
  turn_first cells are = record {
    done = [];
    others = found;
    parts = refl;
    rows = are.rows;
    stamped = are.stamped;
    put = none_taken columns key g old;
  }

  -- no cell is left of no bytes
  none_left : (rest : List ℕ) (others : List (Option Element)) → length rest ≡ 0 → AreCellsWith columns front rest (map row_if_any others) → others ≡ []
  none_left rest [] none are = refl
  none_left rest (f ∷ fs) none are = absurd (no_cell columns front (take (front + width_of columns) rest) (row_if_any f)
      (omega (arith, none, length-take (front + width_of columns) rest)) are.0)

  pub turn_last : (number : ℕ) (rest : List ℕ) (h : Grouping) (now : List ℕ) → length rest ≡ 0 → Turn key columns front number stamps rest found g old h now
      → TextsPut columns key g old (elements_in found) key h now
  turn_last number rest h now over t =
      subst (λ (es : List Element). TextsPut columns key g old es key h now)
      (sym (t.parts ∙ ap (λ (fs : List (Option Element)). t.done ++ elements_in fs) (none_left rest t.others over t.rows) ∙ append-nil t.done)) t.put

  module _ (number : ℕ) (rest cell behind : List ℕ) (h i : Grouping) (now next : List ℕ) (cut : cell ≡ take (front + width_of columns) rest) (drops : behind ≡ drop (front + width_of columns) rest)
      (some : 0 < length rest)
      (takes : (f : Option Element) → IsCellWith columns front cell (row_if_any f) → IfSome f (λ e. HasStamp stamps number cell e.0)
      → ArePut h (texts_of_elements key columns (one_of f)) i now next) where
    pub turn_next : Turn key columns front number stamps rest found g old h now → Turn key columns front (number + 1) stamps behind found g old i next
    turn_next t = by t.others t.parts t.rows t.stamped where
      by : (others : List (Option Element)) → elements_in found ≡ t.done ++ elements_in others → AreCellsWith columns front rest (map row_if_any others)
          → AreStamped stamps (front + width_of columns) number rest others → Turn key columns front (number + 1) stamps behind found g old i next
      by [] parts rows stamped = absurd (let none : length rest ≡ 0 = ap length rows in omega (arith, none, some))
      by (f ∷ fs) parts rows stamped =
          let taken = takes f (subst (λ (l : List ℕ). IsCellWith columns front l (row_if_any f)) (sym cut) rows.0)
          (subst (λ (l : List ℕ). IfSome f (λ e. HasStamp stamps number l e.0)) (sym cut) stamped.0) in
          record {
            done = t.done ++ one_of f;
            others = fs;
            parts = parts ∙ ap (λ (es : List Element). t.done ++ es) (elements_cons f fs) ∙ sym (append_assoc t.done (one_of f) (elements_in fs));
            rows = subst (λ (l : List ℕ). AreCellsWith columns front l (map row_if_any fs)) (sym drops) rows.1;
            stamped = subst (λ (l : List ℕ). AreStamped stamps (front + width_of columns) (number + 1) l fs) (sym drops) stamped.1;
            put = both_taken columns key key key g h i old now next t.done (one_of f) t.put (record { one_key = refl; put = taken });
          }
