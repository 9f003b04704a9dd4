use Rattle.std.proofs.Common.{Bool, Option, Ok, subst, sym}
use Rattle.ts_space.specs.declared.moved.Moved.{Moved}
use Rattle.ts_space.specs.Directory.{places_of}
use Rattle.ts_chain.specs.Call.{IsInserted, IsReplaced}
use Rattle.ts_series.specs.declared.edits.EditKind.TheVariants.{PutNoDups}
use Rattle.ts_series.specs.declared.edits.Edited.{Edited}
use Rattle.ts_series.specs.Edit.{IsDone}
use Rattle.ts_series.proofs.AnswerLemmas.{row_given, no_row_given, update_on}
use Rattle.ts_series.proofs.edits.put_no_dups.Goals.{then-replaced, else-replaced}
use Rattle.ts_series.proofs.edits.put_no_dups.Goals as goal

pub returns-then-not-has_room-clause-done : goal.returns-then-not-has_room-clause-done
returns-then-not-has_room-clause-done g c =
    let tells = g.P.Pages.tells in
    let shelf = c.args.shelf.now in
    let columns = shelf.kind.now.columns in
    let places = places_of shelf.series c.args.space.now in
    let v = g.P.Pages.contents c.args.pages.now in
    let w = g.P.Pages.contents c.chain_replace.new.pages in
    let done = c.in_ok-replaced.ensures in
    elim c.if-replaced.branch [
      | then-replaced b ↦
          subst (λ (e : Edited). IsDone tells shelf.series columns PutNoDups c.args.stamp c.args.row.now c.args.room places v w (Ok e)) (sym b.result-is)
          (row_given tells shelf.series columns c.args.stamp c.args.row.now c.args.room places v w c.in_ok-replaced.replaced done.call done.change
          (subst (λ (r : Bool). IsReplaced tells shelf.series columns c.args.stamp c.args.row.now places v w r) b.if-replaced.true done.ok))
      | else-replaced b ↦
          subst (λ (e : Edited). IsDone tells shelf.series columns PutNoDups c.args.stamp c.args.row.now c.args.room places v w (Ok e)) (sym b.result-is)
          (no_row_given tells shelf.series columns c.args.stamp c.args.row.now c.args.room places v w c.in_ok-replaced.replaced done.call done.change
          (subst (λ (r : Bool). IsReplaced tells shelf.series columns c.args.stamp c.args.row.now places v w r) b.if-replaced.false done.ok)
          (c.has_room.ensures.no (λ yes. cc)))
    ]

pub returns-in-None-clause-done : goal.returns-in-None-clause-done
returns-in-None-clause-done g c =
    let tells = g.P.Pages.tells in
    let shelf = c.args.shelf.now in
    let places = places_of shelf.series c.args.space.now in
    let v = g.P.Pages.contents c.args.pages.now in
    let u = g.P.Pages.contents c.chain_insert.new.pages in
    update_on tells shelf.series shelf.kind.now.columns c.args.stamp c.args.row.now c.args.room places v u (g.P.Pages.contents c.update.new.pages) c.in_ok-moved.field-0
    (subst (λ (o : Option Moved). IsInserted tells shelf.series shelf.kind.now.columns c.args.stamp c.args.row.now places v u o) c.in-None.is c.in_ok-moved.ensures.ok)
    c.in_ok-moved.ensures.call c.update.result (c.update.ensures.done c.args.room)
