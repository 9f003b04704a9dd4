use Rattle.std.proofs.Common.{Ok, List, ℕ, ap, ◌∙◌}
use Rattle.std.specs.Prelude.{slice_get}
use Rattle.ts_command.specs.declared.command.Command.TheVariants.{GetFirstElem}
use Rattle.ts_layout.specs.Meaning.{catalogue_of}
use Rattle.ts_answer.specs.Answer.{Answered, outcome, carried_out, get_first_element}
use Rattle.ts_answer.specs.View.{view}
use Rattle.ts_answer.proofs.CallerLemmas.{read_stopped_first, tried_stopped, refused_as, on_ok, said_line}
use Rattle.ts_shelf.proofs.ReadingLemmas.{failed_out}
use Rattle.ts_shelf.proofs.SeenLemmas.{shelf_seen, read_out}
use Rattle.ts_elements.proofs.FoundLemmas.{one_text}
use Rattle.ts_elements.proofs.element.get_first_element.Goals as goal

pub returns-in_err-shelf-clause-read : goal.returns-in_err-shelf-clause-read
unfolding outcome carried_out get_first_element
returns-in_err-shelf-clause-read g c =
    let x = view c.args.defs.now.definitions c.args.space.now (g.P.Pages.contents c.args.pages.now) in
    let command = GetFirstElem c.args.key.now in
    let trouble = c.in_err-shelf.field-0.0 in
    read_stopped_first g.P.Pages.tells command c.args.out.now x c.from_residual.result _ c.from_residual.ensures.1
    (tried_stopped g.P.Pages.tells command c.args.out.now x trouble (λ l kept. refused_as trouble _ _ (c.in_err-shelf.ensures.tried l kept).err))

pub returns-in_err-first-clause-read : goal.returns-in_err-first-clause-read
returns-in_err-first-clause-read g c =
    let x = view c.args.defs.now.definitions c.args.space.now (g.P.Pages.contents c.args.pages.now) in
    failed_out g.P.Pages.tells (GetFirstElem c.args.key.now) c.args.out.now x _ _ c.in_err-first.field-0.0 c.from_residual-in_err-first.ensures.1 c.in_err-first.ensures.call

pub returns-clause-read : goal.returns-clause-read
unfolding outcome carried_out get_first_element
returns-clause-read g c =
    let tells = g.P.Pages.tells in
    let x = view c.args.defs.now.definitions c.args.space.now (g.P.Pages.contents c.args.pages.now) in
    let shelf = c.in_ok-shelf.shelf in
    let shape = c.in_ok-shelf.shape in
    let found = c.in_ok-shelf.ensures.found in
    let first = c.in_ok-first.first in
    read_out tells (GetFirstElem c.args.key.now) x (g.P.Pages.contents c.first_elem.new.pages) first _ c.say_found.new.out (said_line _ c.args.out.now c.say_found.new.out c.requires.empty c.in_ok-say_found.ensures.ok)
    c.in_ok-first.ensures.call (λ told l shows.
    let tried = shelf_seen x l shows.kept c.args.key.now shape shelf.series shelf.kind.now found in
    on_ok _ tried.0 _ tried.1 ∙ ap (λ (t : List ℕ). let a : Answered = (t, catalogue_of l) in Ok a)
    (one_text tells x l shape c.in_ok-shelf.ensures.laid shelf.series shelf.kind.now told shows found.columns found.lies found.named.within
    (λ es. slice_get es 0) c.args.key.now tried.0 first tried.2 c.in_ok-first.ensures.first))
