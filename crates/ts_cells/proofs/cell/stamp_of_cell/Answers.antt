-- What passes the three tests is a cell.
use Rattle.std.proofs.Common.{◌≡◌, ℕ, List, ℤ, take, drop, length, ◌-◌, sym, ap, subst, ◌∙◌, arith, length-drop}
use Rattle.std.proofs.Math.Seq.{take-length}
use Rattle.std.specs.Int.{w64, from_be_bytes, cast_signed}
use Rattle.std.proofs.lemmas.Int.{to_z-of_z, ints}
use Rattle.std.proofs.Math.Facts.{Fits-lt-pow}
use Rattle.ts_base.specs.Moment.{stamp_if_any}
use Rattle.ts_row.specs.declared.kind.Column.{Column}
use Rattle.ts_row.specs.Row.{Row}
use Rattle.ts_row.specs.Encoding.{AreRowBytes}
use Rattle.ts_cells.specs.IrregularPage.{IsElement, cell_bytes}
use Rattle.ts_cells.proofs.CellLemmas.{element_of, if_some}
use Rattle.ts_cells.proofs.cell.stamp_of_cell.Goals as goal

pub returns-clause-found : goal.returns-clause-found
returns-clause-found c =
    let columns : List Column = c.args.kind.now.columns in
    let cell : List ℕ = c.args.cell.now in
    let number : ℤ = cast_signed w64 (from_be_bytes w64 (take 8 (drop 1 cell))) in
    let units : c.units_in.result ≡ number = c.units_in.ensures in
    let read : c.of.result ≡ stamp_if_any number = c.of.ensures ∙ ap stamp_if_any (to_z-of_z w64 c.units_in.result (omega (arith, ints)) ∙ units) in
    let all : take (length cell - 9) (drop 9 cell) ≡ drop 9 cell = ap (λ (n : ℕ). take n (drop 9 cell)) (sym (length-drop 9 cell)) ∙ take-length (drop 9 cell) in
    let row : AreRowBytes columns (drop 9 cell) = subst (λ (l : List ℕ). AreRowBytes columns l) all (c.is_row.ensures.0 c.if-not-is_row.false) in
    if_some c.of.result (stamp_if_any number) (λ stamp. (x : Row) × IsElement columns (stamp, x) × (cell ≡ cell_bytes columns (stamp, x))) read
    (λ z stamp. element_of columns cell z c.requires (λ i. Fits-lt-pow (c.type_inv.cell i)) c.if-cell-ne1.false row stamp)
