use Rattle.std.proofs.Common.{Ok, List, ap, ◌∙◌, sym, subst}
use Rattle.ts_row.specs.declared.kind.Column.{Column}
use Rattle.ts_layout.specs.Meaning.{catalogue_of}
use Rattle.ts_answer.specs.Answer.{Tried, Answered, a_row}
use Rattle.ts_answer.specs.Tried.{IsRefusedAs}
use Rattle.ts_answer.specs.View.{view}
use Rattle.ts_answer.proofs.CallerLemmas.{stopped_first, tried_stopped, refused_as, goes_refused}
use Rattle.ts_elements.specs.Elements.{edit_of}
use Rattle.ts_elements.proofs.EditLemmas.{edit_begins}
use Rattle.ts_elements.proofs.edits.edit_element.Goals as goal

pub returns-in_err-shelf-clause-carried : goal.returns-in_err-shelf-clause-carried
returns-in_err-shelf-clause-carried g c =
    let x = view c.args.defs.now.definitions c.args.space.now (g.P.Pages.contents c.args.pages.now) in
    let command = edit_of c.args.how c.args.key.now c.args.stamp c.args.values.now in
    let begins = edit_begins c.args.how c.args.key.now c.args.stamp c.args.values.now in
    let trouble = c.in_err-shelf.field-0.0 in
    stopped_first g.P.Pages.tells command c.args.out.now x c.from_residual.result _ c.from_residual.ensures.1
    (tried_stopped g.P.Pages.tells command c.args.out.now x trouble (λ l kept.
    subst (λ (t : Tried Answered). IsRefusedAs trouble t) (sym (begins (catalogue_of l))) (refused_as trouble _ _ (c.in_err-shelf.ensures.tried l kept).err)))

pub returns-in_err-row-clause-carried : goal.returns-in_err-row-clause-carried
returns-in_err-row-clause-carried g c =
    let x = view c.args.defs.now.definitions c.args.space.now (g.P.Pages.contents c.args.pages.now) in
    let literals = c.args.values.now in
    let command = edit_of c.args.how c.args.key.now c.args.stamp literals in
    let begins = edit_begins c.args.how c.args.key.now c.args.stamp literals in
    let trouble = c.in_err-row.field-0.0 in
    stopped_first g.P.Pages.tells command c.args.out.now x c.from_residual-in_err-row.result _ c.from_residual-in_err-row.ensures.1
    (tried_stopped g.P.Pages.tells command c.args.out.now x trouble (λ l kept.
    subst (λ (t : Tried Answered). IsRefusedAs trouble t) (sym (begins (catalogue_of l))) (goes_refused _ (c.in_ok-shelf.shelf, c.in_ok-shelf.shape) trouble (c.in_ok-shelf.ensures.tried l kept) (λ series is.
    refused_as trouble _ _ (subst (λ (cs : List Column). IsRefusedAs trouble (a_row cs literals)) (sym is.columns) c.in_err-row.ensures.tried.err)))))

pub returns-clause-carried : goal.returns-clause-carried
returns-clause-carried g c =
    let row = c.in_ok-row.ensures.tried.ok in
    c.edit_on.ensures.carried c.args.key.now c.args.values.now (record { shelf = c.in_ok-shelf.ensures.found; gives = row.1 ∙ ap Ok row.2 })
