use Rattle.ts_running.proofs.StepLemmas.{kept, read_is}
use Rattle.ts_running.proofs.list.ExprList.read.Goals as goal

pub invariant_of-result : goal.invariant_of-result
invariant_of-result c = kept c.in-Ok.steps.items c.in-Ok.ensures.ok.exprs c.in-Ok.ensures.ok.steps

pub returns-in-Ok : goal.returns-in-Ok
returns-in-Ok c = read_is c.args.text.now c.in-Ok.steps.items c.in-Ok.ensures.ok
