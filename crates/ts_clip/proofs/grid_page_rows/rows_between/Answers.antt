use Rattle.std.proofs.Common.{◌+◌, ◌-◌, List, take, drop, subst, arith}
use Rattle.std.proofs.lemmas.Result.{IfOk-weaker}
use Rattle.ts_row.specs.declared.kind.Column.{Column}
use Rattle.ts_row.specs.Row.{width_of, Element}
use Rattle.ts_regular.specs.RegularPage.{Cell}
use Rattle.ts_entry.specs.Rows.{AreCellsWith}
use Rattle.ts_regular.proofs.BytesLemmas.{cells_fit}
use Rattle.ts_clip.proofs.RowRunLemmas.{cells_run, run_whole}
use Rattle.ts_clip.proofs.StampedRunLemmas.{cells_stamped, elements_on, held_from, rows_on}
use Rattle.ts_clip.proofs.grid_page_rows.rows_between.Goals as goal

pub rows-requires-clause-whole : goal.rows-requires-clause-whole
rows-requires-clause-whole g c =
    let columns : List Column = c.args.kind.now.columns in
    let fit = cells_fit columns c.args.stop c.requires.within in (
      c.args.stop - c.args.first,
      run_whole c.cell_size-size.result c.args.first c.args.stop c.requires.order (1 + width_of columns) c.args.behind.now (omega (arith, c.cell_size-size.ensures.value))
          (omega (arith, fit, c.requires.size)),
    )

pub returns : goal.returns
returns g c =
    let columns : List Column = c.args.kind.now.columns in
    let grid = c.args.grid in
    let size = c.cell_size-size.result in
    let first = c.args.first in
    let stop = c.args.stop in
    IfOk-weaker c.rows.result _ _
    (λ done took cells are room same laid starts.
    let mid : List Cell = take (stop - first) (drop first cells) in
    subst (λ (l : List Element). g.V.RowVisitor.took columns c.args.visitor.now l c.rows.new.self) (elements_on grid.now c.args.offset mid)
    (took (held_from grid.now c.args.offset mid) (record {
      rows = subst (AreCellsWith columns 1 _) (rows_on grid.now c.args.offset mid starts)
          (cells_run columns size first stop cells c.args.behind.now are c.requires.order (omega (arith, room, c.requires.within)) same c.cell_size-size.ensures.value);
      stamped = cells_stamped grid laid c.args.offset (1 + width_of columns) 0 c.args.offset _ mid (omega arith);
    })))
    c.rows.ensures.took
