use Rattle.ts_irregular.proofs.CellLemmas.{element_among}
use Rattle.ts_irregular.proofs.cell.is_hidden_at.Goals as goal

pub returns : goal.returns
returns c = λ es e are at same.
    c.is_hidden_cell.ensures e (element_among c.args.kind.now.columns c.args.index es e are at) (c.cell_at.ensures.bytes es e are at same)
