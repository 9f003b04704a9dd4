use Rattle.ts_irregular.proofs.CellLemmas.{cell_of}
use Rattle.ts_clip.proofs.chain_cells.cell_at.Goals as goal

pub returns-clause-bytes : goal.returns-clause-bytes
returns-clause-bytes c = λ es e are at same. cell_of c.args.kind.now.columns c.cell_size-size.result c.args.index es e c.args.behind.now are at same c.cell_size-size.ensures.value
