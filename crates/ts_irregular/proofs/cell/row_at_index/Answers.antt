use Rattle.std.proofs.Common.{List, sym, ap, ◌∙◌}
use Rattle.std.specs.Option.{option_map}
use Rattle.std.proofs.lemmas.Result.{IfOk-weaker}
use Rattle.ts_row.specs.declared.kind.Column.{Column}
use Rattle.ts_cells.specs.IrregularPage.{Element}
use Rattle.ts_irregular.proofs.BytesLemmas.{part}
use Rattle.ts_irregular.proofs.CellLemmas.{element_is, row_behind}
use Rattle.ts_irregular.proofs.cell.row_at_index.Goals as goal

pub returns-clause-found : goal.returns-clause-found
returns-clause-found c =
    let columns : List Column = c.args.kind.now.columns in
    IfOk-weaker c.decode.result _ _
    (λ row meaning es are within same.
    let p = part columns c.args.index es c.args.behind.now are within same in
    let at = element_is columns c.args.index es c.args.behind.now p in
    let cell = c.cell_at-cell.ensures.bytes es p.element are at same in
    (meaning p.element.1).1 (p.is.row, sym (row_behind columns p.element c.cell_at-cell.result.now c.width.result p.is cell c.width.ensures.value))
    ∙ sym (ap (option_map (λ (e : Element). e.1)) at))
    c.decode.ensures.meaning
