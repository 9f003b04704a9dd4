use Rattle.std.proofs.Common.{Ok, List, ℕ, ap, ◌∙◌}
use Rattle.ts_command.specs.declared.command.Command.TheVariants.{GetLastElem}
use Rattle.ts_irregular.specs.Edit.{last_of}
use Rattle.ts_layout.specs.Meaning.{catalogue_of}
use Rattle.ts_answer.specs.Answer.{Answered, outcome, carried_out, get_last_element}
use Rattle.ts_answer.specs.View.{view}
use Rattle.ts_answer.proofs.CallerLemmas.{read_stopped_first, tried_stopped, refused_as, on_ok, said_line}
use Rattle.ts_shelf.proofs.ReadingLemmas.{failed_out}
use Rattle.ts_shelf.proofs.SeenLemmas.{shelf_seen, read_out}
use Rattle.ts_elements.proofs.FoundLemmas.{one_text}
use Rattle.ts_elements.proofs.element.get_last_element.Goals as goal

pub returns-in_err-shelf-clause-read : goal.returns-in_err-shelf-clause-read
unfolding outcome carried_out get_last_element
returns-in_err-shelf-clause-read g c =
    let x = view c.args.defs.now.definitions c.args.space.now (g.P.Pages.contents c.args.pages.now) in
    let command = GetLastElem c.args.key.now in
    let trouble = c.in_err-shelf.field-0.0 in
    read_stopped_first g.P.Pages.tells command c.args.out.now x c.from_residual.result _ c.from_residual.ensures.1
    (tried_stopped g.P.Pages.tells command c.args.out.now x trouble (λ l kept. refused_as trouble _ _ (c.in_err-shelf.ensures.tried l kept).err))

pub returns-in_err-last-clause-read : goal.returns-in_err-last-clause-read
returns-in_err-last-clause-read g c =
    let x = view c.args.defs.now.definitions c.args.space.now (g.P.Pages.contents c.args.pages.now) in
    failed_out g.P.Pages.tells (GetLastElem c.args.key.now) c.args.out.now x _ _ c.in_err-last.field-0.0 c.from_residual-in_err-last.ensures.1 c.in_err-last.ensures.call

pub returns-clause-read : goal.returns-clause-read
unfolding outcome carried_out get_last_element
returns-clause-read g c =
    let tells = g.P.Pages.tells in
    let x = view c.args.defs.now.definitions c.args.space.now (g.P.Pages.contents c.args.pages.now) in
    let shelf = c.in_ok-shelf.shelf in
    let shape = c.in_ok-shelf.shape in
    let found = c.in_ok-shelf.ensures.found in
    let last = c.in_ok-last.last in
    read_out tells (GetLastElem c.args.key.now) x (g.P.Pages.contents c.last_elem.new.pages) last _ c.say_found.new.out (said_line _ c.args.out.now c.say_found.new.out c.requires.empty c.in_ok-say_found.ensures.ok)
    c.in_ok-last.ensures.call (λ told l shows.
    let tried = shelf_seen x l shows.kept c.args.key.now shape shelf.series shelf.kind.now found in
    on_ok _ tried.0 _ tried.1 ∙ ap (λ (t : List ℕ). let a : Answered = (t, catalogue_of l) in Ok a)
    (one_text tells x l shape c.in_ok-shelf.ensures.laid shelf.series shelf.kind.now told shows found.columns found.lies found.named.within
    last_of c.args.key.now tried.0 last tried.2 c.in_ok-last.ensures.last))
