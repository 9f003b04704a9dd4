use Rattle.std.proofs.Common.{subst, arith}
use Rattle.ts_space.specs.Directory.{places_of}
use Rattle.ts_series.specs.declared.edits.Edited.{Edited}
use Rattle.ts_answer.specs.Reply.{stamp_line}
use Rattle.ts_answer.specs.View.{view}
use Rattle.ts_answer.proofs.CallerLemmas.{said_line}
use Rattle.ts_shelf.proofs.MemoryLemmas.{countable_kept}
use Rattle.ts_elements.specs.Elements.{IsCharged}
use Rattle.ts_elements.specs.Calls.{IsEdited}
use Rattle.ts_elements.proofs.MemoryLemmas.{few_kept}
use Rattle.ts_elements.proofs.PutLemmas.{put_carried, given_carried, refused_carried, full_carried}
use Rattle.ts_elements.proofs.edits.edit_on.Goals as goal

pub budget_of-budget-requires-clause-charged : goal.budget_of-budget-requires-clause-charged
unfolding IsCharged
budget_of-budget-requires-clause-charged g c =
    let x = view c.args.defs.now.definitions c.args.space.now (g.P.Pages.contents c.args.pages.now) in (c.requires.charged, few_kept x c.requires.seen.kept)

pub budget_of-budget-requires-clause-countable : goal.budget_of-budget-requires-clause-countable
budget_of-budget-requires-clause-countable g c =
    let x = view c.args.defs.now.definitions c.args.space.now (g.P.Pages.contents c.args.pages.now) in countable_kept x c.requires.seen.kept c.args.shelf.now.series c.requires.slot

pub edit_in-requires-clause-countable : goal.edit_in-requires-clause-countable
edit_in-requires-clause-countable g c =
    let x = view c.args.defs.now.definitions c.args.space.now (g.P.Pages.contents c.args.pages.now) in
    let few = countable_kept x c.requires.seen.kept c.args.shelf.now.series c.requires.slot in
    omega (arith, few)

pub edit_in-requires-clause-room : goal.edit_in-requires-clause-room
edit_in-requires-clause-room g c = omega (arith, c.room_in-room.ensures)

pub refusal_of-requires-clause-countable : goal.refusal_of-requires-clause-countable
refusal_of-requires-clause-countable g c =
    let x = view c.args.defs.now.definitions c.args.space.now (g.P.Pages.contents c.args.pages.now) in countable_kept x c.requires.seen.kept c.args.shelf.now.series c.requires.slot

pub returns-in_ok-say_stamp-in-Put-clause-carried : goal.returns-in_ok-say_stamp-in-Put-clause-carried
returns-in_ok-say_stamp-in-Put-clause-carried g c key literals has =
    let tells = g.P.Pages.tells in
    let shelf = c.args.shelf.now in
    let v = g.P.Pages.contents c.args.pages.now in
    let w = g.P.Pages.contents c.edit_in.new.pages in
    let x = view c.args.defs.now.definitions c.args.space.now v in
    let budget = c.budget_of-budget in
    let done = c.in_ok-stamp.ensures in
    let did = subst (λ (e : Edited). IsEdited tells c.args.shape.now shelf.series shelf.kind.now.columns c.args.how c.args.stamp c.args.row.now c.room_in-room.result (places_of shelf.series c.args.space.now) v w e) c.in-Put.is done.ok in
    put_carried tells c.args.how key literals c.args.shape.now c.requires.laid shelf.series c.args.stamp shelf.kind.now c.args.row.now x has c.requires.seen.kept budget.result.others budget.result.quota c.room_in-room.result budget.ensures.budget
    budget.ensures.within c.room_in-room.ensures c.in-Put.stamp c.in-Put.moved w did (g.met.P.Pages.lawful c.edit_in.new.pages) done.call.count (done.call.no_fault (λ failed. cc)) done.change done.grows
    c.say_stamp.new.out (said_line (stamp_line c.in-Put.stamp) c.args.out.now c.say_stamp.new.out c.requires.empty c.in_ok-say_stamp-in-Put.ensures.ok)

pub returns-in_ok-say_stamp-in-Replaced-clause-carried : goal.returns-in_ok-say_stamp-in-Replaced-clause-carried
returns-in_ok-say_stamp-in-Replaced-clause-carried g c key literals has =
    let tells = g.P.Pages.tells in
    let shelf = c.args.shelf.now in
    let v = g.P.Pages.contents c.args.pages.now in
    let w = g.P.Pages.contents c.edit_in.new.pages in
    let x = view c.args.defs.now.definitions c.args.space.now v in
    let budget = c.budget_of-budget in
    let done = c.in_ok-stamp.ensures in
    let did = subst (λ (e : Edited). IsEdited tells c.args.shape.now shelf.series shelf.kind.now.columns c.args.how c.args.stamp c.args.row.now c.room_in-room.result (places_of shelf.series c.args.space.now) v w e) c.in-Replaced.is done.ok in
    given_carried tells c.args.how key literals c.args.shape.now c.requires.laid shelf.series c.args.stamp shelf.kind.now c.args.row.now x has c.requires.seen.kept budget.result.others budget.result.quota c.room_in-room.result budget.ensures.budget
    budget.ensures.within c.room_in-room.ensures w did (g.met.P.Pages.lawful c.edit_in.new.pages) done.call.count (done.call.no_fault (λ failed. cc)) done.change done.grows
    c.say_stamp-in-Replaced.new.out (said_line (stamp_line c.args.stamp) c.args.out.now c.say_stamp-in-Replaced.new.out c.requires.empty c.in_ok-say_stamp-in-Replaced.ensures.ok)

pub returns-in-Refused-clause-carried : goal.returns-in-Refused-clause-carried
returns-in-Refused-clause-carried g c key literals has =
    let tells = g.P.Pages.tells in
    let shelf = c.args.shelf.now in
    let v = g.P.Pages.contents c.args.pages.now in
    let w = g.P.Pages.contents c.edit_in.new.pages in
    let x = view c.args.defs.now.definitions c.args.space.now v in
    let budget = c.budget_of-budget in
    let done = c.in_ok-stamp.ensures in
    let did = subst (λ (e : Edited). IsEdited tells c.args.shape.now shelf.series shelf.kind.now.columns c.args.how c.args.stamp c.args.row.now c.room_in-room.result (places_of shelf.series c.args.space.now) v w e) c.in-Refused.is done.ok in
    refused_carried tells c.args.how key literals c.args.shape.now c.requires.laid shelf.series c.args.stamp shelf.kind.now c.args.row.now x has c.requires.seen.kept budget.result.others budget.result.quota c.room_in-room.result budget.ensures.budget
    budget.ensures.within c.room_in-room.ensures w done.call.count (done.call.no_fault (λ failed. cc)) done.change c.args.out.now c.in-Refused.refusal did

pub returns-in-Full-clause-carried : goal.returns-in-Full-clause-carried
returns-in-Full-clause-carried g c key literals has =
    let tells = g.P.Pages.tells in
    let shelf = c.args.shelf.now in
    let v = g.P.Pages.contents c.args.pages.now in
    let w = g.P.Pages.contents c.edit_in.new.pages in
    let x = view c.args.defs.now.definitions c.args.space.now v in
    let budget = c.budget_of-budget in
    let done = c.in_ok-stamp.ensures in
    let did = subst (λ (e : Edited). IsEdited tells c.args.shape.now shelf.series shelf.kind.now.columns c.args.how c.args.stamp c.args.row.now c.room_in-room.result (places_of shelf.series c.args.space.now) v w e) c.in-Full.is done.ok in
    full_carried tells c.args.how key literals c.args.shape.now c.requires.laid shelf.series c.args.stamp shelf.kind.now c.args.row.now x has c.requires.seen.kept budget.result.others budget.result.quota c.room_in-room.result budget.ensures.budget
    budget.ensures.within c.room_in-room.ensures w done.call.count (done.call.no_fault (λ failed. cc)) done.change c.args.out.now c.refusal_of.result c.refusal_of.ensures did
