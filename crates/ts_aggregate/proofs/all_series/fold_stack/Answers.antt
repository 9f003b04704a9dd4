use Rattle.std.proofs.lemmas.Result.{IfOk-weaker}
use Rattle.ts_aggregate.specs.Stacks.{IsFoldOf}
use Rattle.ts_aggregate.proofs.StackLemmas.{is_fold_of}
use Rattle.ts_aggregate.proofs.all_series.fold_stack.Goals as goal

pub returns : goal.returns
returns c =
    let stack = c.args.stack.now in
    let v = c.in_ok-folding.folding in
    let w = c.rows_of_pages.new.visitor in
    IfOk-weaker c.finish.result _ (IsFoldOf c.args.bound.now c.args.from c.args.to c.args.read.now stack)
    (λ row made. is_fold_of c.args.bound.now c.args.from c.args.to c.args.read.now stack v w c.in_ok-folding.ensures.binding c.in_ok-folding.ensures.none
    (λ laid pages es read have. c.in_ok-rows_of_pages.ensures.took laid pages es (rw c.pages_of.ensures read) have) row made)
    c.finish.ensures.made
