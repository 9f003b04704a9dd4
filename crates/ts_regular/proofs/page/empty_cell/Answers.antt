use Rattle.std.proofs.Common.{None}
use Rattle.ts_regular.proofs.BytesLemmas.{cell_written}
use Rattle.ts_regular.proofs.page.empty_cell.Goals as goal

pub returns : goal.returns
returns c = λ cells are within same.
    cell_written c.args.kind.now.columns c.cell_size-size.result c.args.index None cells c.args.behind.now c.clear_cell.new.into are within same c.cell_size-size.ensures.value c.clear_cell.ensures
