use Rattle.std.proofs.Common.{◌≡◌, ℕ, ◌+◌, ◌-◌, ◌≤◌, List, take, drop, refl, sym, subst, arith}
use Rattle.std.proofs.lemmas.Result.{IfOk-weaker}
use Rattle.ts_row.specs.declared.kind.Column.{Column}
use Rattle.ts_row.specs.Row.{width_of, Element}
use Rattle.ts_cells.specs.IrregularPage.{cell_size as element_size}
use Rattle.ts_cells.proofs.HeadLemmas.{cells_fit}
use Rattle.ts_entry.specs.declared.stamps.Stamps.TheVariants.{InCells}
use Rattle.ts_entry.specs.Rows.{AreCellsWith, AreStamped}
use Rattle.ts_clip.proofs.RowRunLemmas.{elements_run, elements_there, elements_mid, run_whole}
use Rattle.ts_clip.proofs.StampedRunLemmas.{elements_held, elements_stamped, held_of, rows_held}
use Rattle.ts_clip.proofs.chain_rows.rows_between.Goals as goal

pub rows-requires-clause-whole : goal.rows-requires-clause-whole
rows-requires-clause-whole g c =
    let columns : List Column = c.args.kind.now.columns in
    let fit = cells_fit columns c.args.last c.requires.room in (
      c.args.last - c.args.first,
      run_whole c.cell_size-size.result c.args.first c.args.last (omega (arith, c.if-last-first.false)) (9 + width_of columns) c.args.behind.now (omega (arith, c.cell_size-size.ensures.value))
          (omega (arith, fit, c.requires.size)),
    )

pub returns : goal.returns
returns g c =
    let columns : List Column = c.args.kind.now.columns in
    let size = c.cell_size-size.result in
    let first = c.args.first in
    let last = c.args.last in
    let is : size ≡ element_size columns = c.cell_size-size.ensures.value in
    let order : first ≤ last = omega (arith, c.if-last-first.false) in
    IfOk-weaker c.rows.result _ _
    (λ done took es are within same.
    let mid : List Element = take (last - first) (drop first es) in
    subst (λ (l : List Element). g.V.RowVisitor.took columns c.args.visitor.now l c.rows.new.self) (elements_held mid)
    (took (held_of mid) (record {
      rows = subst (AreCellsWith columns 9 _) (rows_held mid) (elements_run columns size first last es c.args.behind.now are order within same is);
      stamped = subst (λ (l : List ℕ). AreStamped InCells (9 + width_of columns) 0 l (held_of mid))
          (sym (elements_there columns size first last es c.args.behind.now are order within same is))
          (elements_stamped columns (9 + width_of columns) 0 mid refl (elements_mid columns size first last es c.args.behind.now are order within same is));
    })))
    c.rows.ensures.took
