use Rattle.ts_command.specs.declared.command.Command.TheVariants.{DelClip}
use Rattle.ts_answer.specs.Answer.{outcome, carried_out, delete_range}
use Rattle.ts_answer.specs.View.{view}
use Rattle.ts_answer.proofs.CallerLemmas.{stopped_first, tried_stopped, refused_as}
use Rattle.ts_elements.proofs.removal.delete_range.Goals as goal

pub returns-in_err-shelf-clause-carried : goal.returns-in_err-shelf-clause-carried
unfolding outcome carried_out delete_range
returns-in_err-shelf-clause-carried g c =
    let x = view c.args.defs.now.definitions c.args.space.now (g.P.Pages.contents c.args.pages.now) in
    let command = DelClip c.args.key.now c.args.from c.args.to in
    let trouble = c.in_err-shelf.field-0.0 in
    stopped_first g.P.Pages.tells command c.args.out.now x c.from_residual.result _ c.from_residual.ensures.1
    (tried_stopped g.P.Pages.tells command c.args.out.now x trouble (λ l kept. refused_as trouble _ _ (c.in_err-shelf.ensures.tried l kept).err))

pub returns-clause-carried : goal.returns-clause-carried
returns-clause-carried g c = c.clear_on.ensures.carried c.args.key.now c.in_ok-shelf.ensures.found
