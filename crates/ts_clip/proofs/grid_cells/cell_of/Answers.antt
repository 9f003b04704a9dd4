use Rattle.ts_regular.proofs.BytesLemmas.{cell_read}
use Rattle.ts_clip.proofs.grid_cells.cell_of.Goals as goal

pub returns-clause-bytes : goal.returns-clause-bytes
returns-clause-bytes c = λ cells are within same. cell_read c.args.kind.now.columns c.args.size c.args.index cells c.args.behind.now are within same c.requires.size
