use Rattle.std.proofs.Common.{Ok, List, ℕ, ap, ◌∙◌}
use Rattle.ts_command.specs.declared.command.Command.TheVariants.{GetElem}
use Rattle.ts_layout.specs.Meaning.{catalogue_of}
use Rattle.ts_answer.specs.Answer.{Answered, outcome, carried_out, get_element}
use Rattle.ts_answer.specs.View.{view}
use Rattle.ts_answer.proofs.CallerLemmas.{on_ok, said_line}
use Rattle.ts_shelf.proofs.SeenLemmas.{shelf_seen, read_out}
use Rattle.ts_elements.proofs.FoundLemmas.{element_text}
use Rattle.ts_elements.proofs.element.get_on.Goals as goal

pub returns-clause-read : goal.returns-clause-read
unfolding outcome carried_out get_element
returns-clause-read g c key found =
    let tells = g.P.Pages.tells in
    let x = view c.args._defs.now.definitions c.args.space.now (g.P.Pages.contents c.args.pages.now) in
    let shelf = c.args.shelf.now in
    let shape = c.args.shape.now in
    read_out tells (GetElem key c.args.stamp) x (g.P.Pages.contents c.find_in.new.pages) c.in_ok-found.found _ c.say_found.new.out (said_line _ c.args.out.now c.say_found.new.out c.requires.empty c.in_ok-say_found.ensures.ok)
    c.in_ok-found.ensures.call (λ told l shows.
    let tried = shelf_seen x l shows.kept key shape shelf.series shelf.kind.now found in
    on_ok _ tried.0 _ tried.1 ∙ ap (λ (t : List ℕ). let a : Answered = (t, catalogue_of l) in Ok a)
    (element_text tells x l shape c.requires.laid shelf.series shelf.kind.now told shows found.columns found.lies found.named.within key tried.0 c.args.stamp c.in_ok-found.found c.if_seen.result tried.2 c.in_ok-found.ensures.found
    c.if_seen.ensures.seen))
