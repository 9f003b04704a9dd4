use Rattle.std.proofs.Common.{Option, subst, arith}
use Rattle.ts_space.specs.declared.moved.Moved.{Moved}
use Rattle.ts_space.specs.Directory.{places_of}
use Rattle.ts_chain.specs.Call.{IsInserted}
use Rattle.ts_series.proofs.AnswerLemmas.{behind_put, behind_taken}
use Rattle.ts_series.proofs.edits.put_behind.Goals as goal

pub returns-in-Some-2-clause-done : goal.returns-in-Some-2-clause-done
returns-in-Some-2-clause-done g c =
    let tells = g.P.Pages.tells in
    let shelf = c.args.shelf.now in
    let places = places_of shelf.series c.args.space.now in
    let u = g.P.Pages.contents c.chain_place.new.pages in
    let w = g.P.Pages.contents c.chain_insert.new.pages in
    let put = c.in_ok-moved.ensures in
    behind_put tells shelf.series shelf.kind.now.columns c.args.stamp c.args.row.now c.args.room places (g.P.Pages.contents c.args.pages.now) u c.in_ok-at.field-0 c.in_ok-at.ensures.call w c.in-Some.at c.in-Some.is c.in_ok-at.ensures.place
    c.in-Some-2.moved c.in_ok-moved.field-0 c.requires.within
    (subst (λ (o : Option Moved). IsInserted tells shelf.series shelf.kind.now.columns c.in-Some.at c.args.row.now places u w o) c.in-Some-2.is put.ok) put.call (omega (arith, put.grows)) (omega (arith, put.change))

pub returns-in-None-clause-done : goal.returns-in-None-clause-done
returns-in-None-clause-done g c =
    let tells = g.P.Pages.tells in
    let shelf = c.args.shelf.now in
    let places = places_of shelf.series c.args.space.now in
    let u = g.P.Pages.contents c.chain_place.new.pages in
    let w = g.P.Pages.contents c.chain_insert.new.pages in
    let put = c.in_ok-moved.ensures in
    behind_taken tells shelf.series shelf.kind.now.columns c.args.stamp c.args.row.now c.args.room places (g.P.Pages.contents c.args.pages.now) u c.in_ok-at.field-0 c.in_ok-at.ensures.call w c.in-Some.at c.in-Some.is c.in_ok-at.ensures.place
    c.in_ok-moved.field-0
    (subst (λ (o : Option Moved). IsInserted tells shelf.series shelf.kind.now.columns c.in-Some.at c.args.row.now places u w o) c.in-None.is put.ok) put.call (omega (arith, put.grows)) (omega (arith, put.change))
