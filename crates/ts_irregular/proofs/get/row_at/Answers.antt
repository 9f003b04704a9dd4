use Rattle.std.proofs.Common.{◌<◌, length, arith}
use Rattle.std.proofs.lemmas.Result.{IfOk-weaker}
use Rattle.ts_irregular.proofs.SearchLemmas.{row_found}
use Rattle.ts_irregular.proofs.get.row_at.Goals as goal

pub returns-clause-found : goal.returns-clause-found
returns-clause-found c =
    IfOk-weaker c.row_at_index.result _ _
    (λ row found es order count same.
    let within : c.in-Ok.index < length es = omega (arith, c.in-Ok.ensures.there, count) in
    row_found c.args.kind.now.columns c.args.stamp c.in-Ok.index es c.args.behind.now row order same within (c.in-Ok.ensures.ok es order count same) (found es order.each within same))
    c.row_at_index.ensures.found
