-- What callers cite of cells: the stamp in one, and cells in two parts.
use Rattle.std.proofs.Common.{◌≡◌, ℕ, zero, suc, ◌+◌, ◌*◌, ◌<◌, ◌≤◌, ℤ, cond, Option, Some, None, List, [], ◌∷◌, ◌++◌, length, map, take, drop, refl, sym, ap, subst, ◌∙◌, arith, of_z, w64}
use Rattle.std.specs.Prelude.{IfSome}
use Rattle.std.specs.Int.{from_be_bytes, cast_signed}
use Rattle.std.proofs.lemmas.Int.{ints, to_z-of_z}
use Rattle.std.proofs.lemmas.List.{drop-drop, length-take}
use Rattle.std.proofs.lemmas.List.Elements.{filter_map-append}
use Rattle.ts_base.specs.Moment.{IsStamp, stamp_if_any}
use Rattle.ts_space.proofs.PlaceLemmas.{int_lt_no}
use Rattle.ts_row.specs.declared.kind.Column.{Column}
use Rattle.ts_row.specs.Row.{Row, Element, width_of}
use Rattle.ts_cells.specs.IrregularPage.{stamp_bytes}
use Rattle.ts_cells.proofs.CellLemmas.{units_back, length-stamp_bytes}
use Rattle.ts_entry.specs.declared.stamps.Stamps.{Stamps}
use Rattle.ts_entry.specs.Stamps.{HasStamp}
use Rattle.ts_entry.specs.Rows.{AreCellsWith, AreStamped, AreCellsOf, elements_in, row_if_any, rows_in}

-- a stamp is one again
pub stamp_is : (z : ℤ) → IsStamp z → stamp_if_any z ≡ Some z
stamp_is z is = λ i. cond (int_lt_no z _ is.0 i) None (cond (int_lt_no _ z is.1 i) None (Some z))

-- the units in a cell are those of its stamp
pub units_are : (cell : List ℕ) (units at : ℤ) (place : ℕ) → place ≡ 1 → IsStamp at → take 8 (drop 1 cell) ≡ stamp_bytes at
    → units ≡ cast_signed w64 (from_be_bytes w64 (take 8 (drop place cell))) → units ≡ at
units_are cell units at place one is bytes read =
    read ∙ ap (λ (n : ℕ). cast_signed w64 (from_be_bytes w64 (take 8 (drop n cell)))) one
    ∙ ap (λ (l : List ℕ). cast_signed w64 (from_be_bytes w64 l)) bytes ∙ units_back at is

pub stamp_read : (cell : List ℕ) (units at : ℤ) (place : ℕ) → place ≡ 1 → IsStamp at → take 8 (drop 1 cell) ≡ stamp_bytes at
    → units ≡ cast_signed w64 (from_be_bytes w64 (take 8 (drop place cell))) → stamp_if_any (cast_signed w64 (of_z w64 units)) ≡ Some at
stamp_read cell units at place one is bytes read =
    let same : units ≡ at = units_are cell units at place one is bytes read in
    ap stamp_if_any (to_z-of_z w64 units (omega (arith, ints, same, is.0, is.1)) ∙ same) ∙ stamp_is at is

-- a cell with a stamp has the bytes for it
pub room_for_stamp : (cell : List ℕ) (at : ℤ) → take 8 (drop 1 cell) ≡ stamp_bytes at → 9 ≤ length cell
room_for_stamp [] at bytes = let size : 0 ≡ 8 = ap length bytes ∙ length-stamp_bytes at in absurd (omega (arith, size))
room_for_stamp (b ∷ bs) at bytes =
    let size : length (take 8 bs) ≡ 8 = ap length bytes ∙ length-stamp_bytes at in
    omega (arith, size, length-take 8 bs)

-- the rows of the elements in cells
pub rows_held : (found : List (Option Element)) → rows_in (map row_if_any found) ≡ map (λ e. e.1) (elements_in found)
rows_held [] = refl
rows_held (None ∷ found) = rows_held found
rows_held (Some e ∷ found) = ap (λ (l : List Row). e.1 ∷ l) (rows_held found)

-- the elements in the cells of two lists
pub elements_both : (found others : List (Option Element)) → elements_in (found ++ others) ≡ elements_in found ++ elements_in others
elements_both found others = filter_map-append (λ (f : Option Element). f) found others
