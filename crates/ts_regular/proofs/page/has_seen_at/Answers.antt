use Rattle.ts_regular.specs.OnePage.{cell_at}
use Rattle.ts_regular.proofs.BytesLemmas.{around, seen_row}
use Rattle.ts_regular.proofs.page.has_seen_at.Goals as goal

pub returns-then-has_element : goal.returns-then-has_element
returns-then-has_element c = λ cells are within same.
    let a = around c.args.kind.now.columns c.args.index cells are within in
    seen_row c.args.kind.now.columns (cell_at cells c.args.index) c.is_hidden_cell.result c.cell_at-cell.result.now a.fit (c.cell_at-cell.ensures.bytes cells are within same)
    (c.has_element.ensures.0 c.if-has_element.true) c.is_hidden_cell.ensures
