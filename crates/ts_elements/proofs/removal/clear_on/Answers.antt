use Rattle.std.proofs.Common.{Option, subst, arith}
use Rattle.ts_space.specs.declared.moved.Moved.{Moved}
use Rattle.ts_space.specs.Directory.{places_of}
use Rattle.ts_answer.specs.Reply.{count_line}
use Rattle.ts_answer.specs.View.{view}
use Rattle.ts_answer.proofs.CallerLemmas.{said_line}
use Rattle.ts_elements.specs.Calls.{IsCleared}
use Rattle.ts_elements.proofs.MemoryLemmas.{few_places}
use Rattle.ts_elements.proofs.RemovalLemmas.{cleared_carried, none_cleared}
use Rattle.ts_elements.proofs.removal.clear_on.Goals as goal

pub returns-in-Some-clause-carried : goal.returns-in-Some-clause-carried
returns-in-Some-clause-carried g c key found =
    let tells = g.P.Pages.tells in
    let shelf = c.args.shelf.now in
    let shape = c.args.shape.now in
    let v = g.P.Pages.contents c.args.pages.now in
    let w = g.P.Pages.contents c.clear_in.new.pages in
    let x = view c.args._defs.now.definitions c.args.space.now v in
    let done = c.in_ok-removed.ensures in
    let few = few_places x c.requires.seen.kept shelf.series in
    cleared_carried tells key shape c.requires.laid shelf.series shelf.kind.now x found c.requires.seen.kept w done.call.count (done.call.no_fault (λ failed. cc)) c.args.from c.args.to c.in_ok-removed.removed
    c.in-Some.moved (subst (λ (o : Option Moved). IsCleared tells shape shelf.series shelf.kind.now.columns c.args.from c.args.to (places_of shelf.series c.args.space.now) v w c.in_ok-removed.removed o) c.in-Some.is done.ok)
    (g.met.P.Pages.lawful c.clear_in.new.pages) (omega (arith, done.change, few)) done.grows c.say_count.new.out (said_line (count_line c.in_ok-removed.removed) c.args.out.now c.say_count.new.out c.requires.empty c.in_ok-say_count.ensures.ok)

pub returns-in-None-clause-carried : goal.returns-in-None-clause-carried
returns-in-None-clause-carried g c key found =
    let tells = g.P.Pages.tells in
    let shelf = c.args.shelf.now in
    let shape = c.args.shape.now in
    let v = g.P.Pages.contents c.args.pages.now in
    let w = g.P.Pages.contents c.clear_in.new.pages in
    let x = view c.args._defs.now.definitions c.args.space.now v in
    let done = c.in_ok-removed.ensures in
    let none = subst (λ (o : Option Moved). IsCleared tells shape shelf.series shelf.kind.now.columns c.args.from c.args.to (places_of shelf.series c.args.space.now) v w c.in_ok-removed.removed o) c.in-None.is done.ok in
    none_cleared tells key shape c.requires.laid shelf.series shelf.kind.now x found c.requires.seen.kept w done.call.count (done.call.no_fault (λ failed. cc)) c.args.from c.args.to c.in_ok-removed.removed
    none.0 none.1 none.2 done.grows c.say_count.new.out (said_line (count_line c.in_ok-removed.removed) c.args.out.now c.say_count.new.out c.requires.empty c.in_ok-say_count.ensures.ok)
