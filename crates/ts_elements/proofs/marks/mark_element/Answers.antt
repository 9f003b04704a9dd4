use Rattle.std.proofs.Common.{sym, subst}
use Rattle.ts_layout.specs.Meaning.{catalogue_of}
use Rattle.ts_answer.specs.Answer.{Tried, Answered}
use Rattle.ts_answer.specs.Tried.{IsRefusedAs}
use Rattle.ts_answer.specs.View.{view}
use Rattle.ts_answer.proofs.CallerLemmas.{stopped_first, tried_stopped, refused_as}
use Rattle.ts_elements.specs.Elements.{mark_of}
use Rattle.ts_elements.proofs.MarkLemmas.{marks}
use Rattle.ts_elements.proofs.marks.mark_element.Goals as goal

pub returns-in_err-shelf-clause-carried : goal.returns-in_err-shelf-clause-carried
returns-in_err-shelf-clause-carried g c =
    let x = view c.args.defs.now.definitions c.args.space.now (g.P.Pages.contents c.args.pages.now) in
    let command = mark_of c.args.hidden c.args.key.now c.args.stamp in
    let trouble = c.in_err-shelf.field-0.0 in
    stopped_first g.P.Pages.tells command c.args.out.now x c.from_residual.result _ c.from_residual.ensures.1
    (tried_stopped g.P.Pages.tells command c.args.out.now x trouble (λ l kept.
    subst (λ (t : Tried Answered). IsRefusedAs trouble t) (sym (marks c.args.hidden c.args.key.now c.args.stamp (catalogue_of l))) (refused_as trouble _ _ (c.in_err-shelf.ensures.tried l kept).err)))

pub returns-clause-carried : goal.returns-clause-carried
returns-clause-carried g c = c.mark_on.ensures.carried c.args.key.now c.in_ok-shelf.ensures.found
