use Rattle.ts_regular.proofs.BytesLemmas.{cell_marked}
use Rattle.ts_regular.proofs.page.mark_at.Goals as goal

pub returns : goal.returns
returns c = λ cells are within some same.
    cell_marked c.args.kind.now.columns c.cell_size-size.result c.args.index c.args.hidden cells c.args.behind.now c.mark_cell.new.cell are within some same c.cell_size-size.ensures.value c.mark_cell.ensures
