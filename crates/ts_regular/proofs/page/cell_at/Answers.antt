use Rattle.ts_regular.proofs.BytesLemmas.{cell_read}
use Rattle.ts_regular.proofs.page.cell_at.Goals as goal

pub returns-clause-bytes : goal.returns-clause-bytes
returns-clause-bytes c = λ cells are within same. cell_read c.args.kind.now.columns c.cell_size-size.result c.args.index cells c.args.behind.now are within same c.cell_size-size.ensures.value
