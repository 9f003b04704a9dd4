use Rattle.std.proofs.lemmas.Result.{IfOk-weaker}
use Rattle.ts_regular.specs.OnePage.{cell_at}
use Rattle.ts_regular.proofs.BytesLemmas.{around}
use Rattle.ts_clip.proofs.grid_first.row_at.Goals as goal

pub returns-clause-found : goal.returns-clause-found
returns-clause-found c =
    IfOk-weaker c.row_in.result _ _
    (λ row found cells are within same.
    let a = around c.args.kind.now.columns c.args.index cells are within in
    found (cell_at cells c.args.index) a.fit (c.cell_of.ensures.bytes cells are within same)) c.row_in.ensures.found
