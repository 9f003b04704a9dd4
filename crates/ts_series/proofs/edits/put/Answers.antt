use Rattle.std.proofs.Common.{Option, Ok, subst, sym}
use Rattle.ts_space.specs.declared.moved.Moved.{Moved}
use Rattle.ts_space.specs.Directory.{places_of}
use Rattle.ts_chain.specs.Call.{IsInserted}
use Rattle.ts_series.specs.declared.edits.EditKind.TheVariants.{Put}
use Rattle.ts_series.specs.declared.edits.Edited.{Edited}
use Rattle.ts_series.specs.Edit.{IsDone}
use Rattle.ts_series.proofs.AnswerLemmas.{place_full, place_none, put_on}
use Rattle.ts_series.proofs.edits.put.Goals.{in-Some, in-None}
use Rattle.ts_series.proofs.edits.put.Goals as goal

pub returns-then-not-has_room-clause-done : goal.returns-then-not-has_room-clause-done
returns-then-not-has_room-clause-done g c =
    let tells = g.P.Pages.tells in
    let shelf = c.args.shelf.now in
    let columns = shelf.kind.now.columns in
    let places = places_of shelf.series c.args.space.now in
    let v = g.P.Pages.contents c.args.pages.now in
    let u = g.P.Pages.contents c.chain_place.new.pages in
    let read = c.in_ok-chain_place.ensures in
    elim c.match-branch-2.branch [
      | in-Some w ↦
          subst (λ (e : Edited). IsDone tells shelf.series columns Put c.args.stamp c.args.row.now c.args.room places v u (Ok e)) (sym w.result-is)
          (place_full tells shelf.series columns c.args.stamp c.args.row.now c.args.room places v u c.in_ok-chain_place.field-0 read.call w.in-Some.field-0 w.in-Some.is read.place (c.has_room.ensures.no (λ yes. cc)))
      | in-None w ↦
          subst (λ (e : Edited). IsDone tells shelf.series columns Put c.args.stamp c.args.row.now c.args.room places v u (Ok e)) (sym w.result-is)
          (place_none tells shelf.series columns c.args.stamp c.args.row.now c.args.room places v u c.in_ok-chain_place.field-0 read.call w.in-None.is read.place)
    ]

pub returns-in-None-2-clause-done : goal.returns-in-None-2-clause-done
returns-in-None-2-clause-done g c =
    let tells = g.P.Pages.tells in
    let shelf = c.args.shelf.now in
    let places = places_of shelf.series c.args.space.now in
    let v = g.P.Pages.contents c.args.pages.now in
    let u = g.P.Pages.contents c.chain_insert.new.pages in
    put_on tells shelf.series shelf.kind.now.columns c.args.stamp c.args.row.now c.args.room places v u (g.P.Pages.contents c.put_behind.new.pages) c.in_ok-moved.field-0
    (subst (λ (o : Option Moved). IsInserted tells shelf.series shelf.kind.now.columns c.args.stamp c.args.row.now places v u o) c.in-None-2.is c.in_ok-moved.ensures.ok)
    c.in_ok-moved.ensures.call c.put_behind.result c.put_behind.ensures.done
