use Rattle.std.proofs.Common.{subst}
use Rattle.std.specs.List.{AllZip}
use Rattle.std.proofs.lemmas.Result.{IfOk-weaker}
use Rattle.ts_row.specs.Row.{Row}
use Rattle.ts_aggregate.specs.declared.series_pages.Stack.{Stack}
use Rattle.ts_aggregate.specs.Stacks.{IsFoldOf}
use Rattle.ts_aggregate.proofs.StackLemmas.{OfRow, rows_AllZip}
use Rattle.ts_parallel.proofs.CallerLemmas.{answers_AllZip}
use Rattle.ts_aggregate.proofs.all_series.aggregate_all.Goals as goal

pub returns : goal.returns
returns g c =
    let is_fold : Stack → Row → Type 0 = IsFoldOf c.args.bound.now c.args.from c.args.to c.args.read.now in
    let each = answers_AllZip _ _ (OfRow _ is_fold)
    (λ stack answer call. subst (λ (s : Stack). OfRow _ is_fold s answer) call.shows call.says.met)
    c.args.stacks.now c.in_ok-answers.answers.items c.in_ok-answers.ensures.ok in
    record {
      folded = IfOk-weaker c.all_or_none.result _ (λ rows. AllZip is_fold c.args.stacks.now rows.items)
          (λ rows are. rows_AllZip _ is_fold c.args.stacks.now rows.items
          (subst (AllZip (OfRow _ is_fold) c.args.stacks.now) are each)) c.all_or_none.ensures;
    }
