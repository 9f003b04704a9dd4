use Rattle.std.proofs.Common.{Result, ℤ, subst}
use Rattle.ts_base.specs.declared.refusal.Refusal.{Refusal}
use Rattle.ts_space.specs.Directory.{places_of}
use Rattle.ts_answer.specs.Reply.{stamp_line}
use Rattle.ts_answer.specs.View.{view}
use Rattle.ts_answer.proofs.CallerLemmas.{stopped_first, tried_stopped, said_line}
use Rattle.ts_elements.specs.Elements.{mark_of}
use Rattle.ts_elements.specs.Calls.{IsMarked}
use Rattle.ts_elements.proofs.MarkLemmas.{format_first, marked_carried, unmarked_carried}
use Rattle.ts_elements.proofs.marks.mark_on.Goals as goal

pub returns-in_err-in_format-clause-carried : goal.returns-in_err-in_format-clause-carried
returns-in_err-in_format-clause-carried g c key found =
    let x = view c.args.defs.now.definitions c.args.space.now (g.P.Pages.contents c.args.pages.now) in
    let command = mark_of c.args.hidden key c.args.stamp in
    let trouble = c.in_err-in_format.field-0.0 in
    stopped_first g.P.Pages.tells command c.args.out.now x c.from_residual.result _ c.from_residual.ensures.1
    (tried_stopped g.P.Pages.tells command c.args.out.now x trouble (λ l kept. format_first x l kept c.args.hidden key c.args.shelf.now.series c.args.stamp found.named trouble c.in_err-in_format.ensures.err))

pub returns-in_ok-say_stamp-in-Ok-clause-carried : goal.returns-in_ok-say_stamp-in-Ok-clause-carried
returns-in_ok-say_stamp-in-Ok-clause-carried g c key found =
    let tells = g.P.Pages.tells in
    let shelf = c.args.shelf.now in
    let shape = c.args.shape.now in
    let v = g.P.Pages.contents c.args.pages.now in
    let w = g.P.Pages.contents c.mark_in.new.pages in
    let x = view c.args.defs.now.definitions c.args.space.now v in
    let done = c.in_ok-at.ensures in
    let did = subst (λ (r : Result ℤ Refusal). IsMarked tells shape shelf.series shelf.kind.now.columns c.args.stamp c.args.hidden (places_of shelf.series c.args.space.now) v w r) c.in-Ok.is done.ok in
    marked_carried tells c.args.hidden key shape c.requires.laid shelf.series c.args.stamp shelf.kind.now x found c.requires.seen.kept (λ old. absurd (let no = c.in_ok-in_format.ensures.ok.2 old in cc))
    w done.call.count (done.call.no_fault (λ failed. cc)) done.change c.in-Ok.at did (g.met.P.Pages.lawful c.mark_in.new.pages) c.say_stamp.new.out
    (said_line (stamp_line c.in-Ok.at) c.args.out.now c.say_stamp.new.out c.requires.empty c.in_ok-say_stamp-in-Ok.ensures.ok)

pub returns-in-Err-clause-carried : goal.returns-in-Err-clause-carried
returns-in-Err-clause-carried g c key found =
    let tells = g.P.Pages.tells in
    let shelf = c.args.shelf.now in
    let shape = c.args.shape.now in
    let v = g.P.Pages.contents c.args.pages.now in
    let w = g.P.Pages.contents c.mark_in.new.pages in
    let x = view c.args.defs.now.definitions c.args.space.now v in
    let done = c.in_ok-at.ensures in
    let did = subst (λ (r : Result ℤ Refusal). IsMarked tells shape shelf.series shelf.kind.now.columns c.args.stamp c.args.hidden (places_of shelf.series c.args.space.now) v w r) c.in-Err.is done.ok in
    unmarked_carried tells c.args.hidden key shape c.requires.laid shelf.series c.args.stamp shelf.kind.now x found c.requires.seen.kept (λ old. absurd (let no = c.in_ok-in_format.ensures.ok.2 old in cc))
    w done.call.count (done.call.no_fault (λ failed. cc)) done.change c.in-Err.refusal did c.args.out.now
