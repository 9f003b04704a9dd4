use Rattle.std.proofs.Common.{Option, subst}
use Rattle.ts_space.specs.declared.moved.Moved.{Moved}
use Rattle.ts_space.specs.Directory.{places_of}
use Rattle.ts_answer.specs.Reply.{count_line}
use Rattle.ts_answer.specs.View.{view}
use Rattle.ts_answer.proofs.CallerLemmas.{said_line}
use Rattle.ts_elements.specs.Calls.{IsRemoved}
use Rattle.ts_elements.proofs.RemovalLemmas.{taken_carried, none_carried}
use Rattle.ts_elements.proofs.removal.remove_on.Goals as goal

pub returns-in_ok-say_count-in-Some-clause-carried : goal.returns-in_ok-say_count-in-Some-clause-carried
returns-in_ok-say_count-in-Some-clause-carried g c key found =
    let tells = g.P.Pages.tells in
    let shelf = c.args.shelf.now in
    let shape = c.args.shape.now in
    let v = g.P.Pages.contents c.args.pages.now in
    let w = g.P.Pages.contents c.remove_in.new.pages in
    let x = view c.args._defs.now.definitions c.args.space.now v in
    let done = c.in_ok-moved.ensures in
    taken_carried tells key shape c.requires.laid shelf.series shelf.kind.now x found c.requires.seen.kept w done.call.count (done.call.no_fault (λ failed. cc)) c.args.stamp c.in-Some.moved
    (subst (λ (o : Option Moved). IsRemoved tells shape shelf.series shelf.kind.now.columns c.args.stamp (places_of shelf.series c.args.space.now) v w o) c.in-Some.is done.ok)
    (g.met.P.Pages.lawful c.remove_in.new.pages) done.change c.say_count.new.out (said_line (count_line 1) c.args.out.now c.say_count.new.out c.requires.empty c.in_ok-say_count-in-Some.ensures.ok)

pub returns-in_ok-say_count-in-None-clause-carried : goal.returns-in_ok-say_count-in-None-clause-carried
returns-in_ok-say_count-in-None-clause-carried g c key found =
    let tells = g.P.Pages.tells in
    let shelf = c.args.shelf.now in
    let shape = c.args.shape.now in
    let v = g.P.Pages.contents c.args.pages.now in
    let w = g.P.Pages.contents c.remove_in.new.pages in
    let x = view c.args._defs.now.definitions c.args.space.now v in
    let done = c.in_ok-moved.ensures in
    let none = subst (λ (o : Option Moved). IsRemoved tells shape shelf.series shelf.kind.now.columns c.args.stamp (places_of shelf.series c.args.space.now) v w o) c.in-None.is done.ok in
    none_carried tells key shape c.requires.laid shelf.series shelf.kind.now x found c.requires.seen.kept w done.call.count (done.call.no_fault (λ failed. cc)) c.args.stamp none.0 none.1
    done.change c.say_count-in-None.new.out (said_line (count_line 0) c.args.out.now c.say_count-in-None.new.out c.requires.empty c.in_ok-say_count-in-None.ensures.ok)
