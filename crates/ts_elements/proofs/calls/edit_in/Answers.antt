use Rattle.std.proofs.Common.{IfOk, sym, subst}
use Rattle.ts_space.specs.Directory.{places_of}
use Rattle.ts_offset.specs.declared.shape.Shape.{Shape}
use Rattle.ts_elements.specs.Calls.{IsEdited}
use Rattle.ts_offset.specs.Shape.{IsLaidOut}
use Rattle.ts_elements.proofs.ChainLemmas.{ok_as, edited_chain}
use Rattle.ts_elements.proofs.GridLemmas.{edited_cells}
use Rattle.ts_elements.proofs.calls.edit_in.Goals as goal

pub returns-in-Irregular-clause-ok : goal.returns-in-Irregular-clause-ok
returns-in-Irregular-clause-ok g c =
    let tells = g.P.Pages.tells in
    let slot = c.args.shelf.now.series in
    let columns = c.args.shelf.now.kind.now.columns in
    let places = places_of slot c.args.space.now in
    let v = g.P.Pages.contents c.args.pages.now in
    let w = g.P.Pages.contents c.edit.new.pages in
    subst (λ (s : Shape). IfOk c.edit.result (IsEdited tells s slot columns c.args.how c.args.stamp c.args.row.now c.args.room places v w)) (sym c.in-Irregular.is)
    (ok_as c.edit.result _ _ (edited_chain tells slot columns places v w c.requires.some c.args.how c.args.stamp c.args.row.now c.args.room) c.edit.ensures.ok)

pub returns-in-Regular-clause-ok : goal.returns-in-Regular-clause-ok
returns-in-Regular-clause-ok g c =
    let tells = g.P.Pages.tells in
    let slot = c.args.shelf.now.series in
    let columns = c.args.shelf.now.kind.now.columns in
    let places = places_of slot c.args.space.now in
    let v = g.P.Pages.contents c.args.pages.now in
    let w = g.P.Pages.contents c.edit_at.new.pages in
    let grid = c.in-Regular.grid in
    let laid = subst IsLaidOut c.in-Regular.is c.requires.laid in
    subst (λ (s : Shape). IfOk c.edit_at.result (IsEdited tells s slot columns c.args.how c.args.stamp c.args.row.now c.args.room places v w)) (sym c.in-Regular.is)
    (ok_as c.edit_at.result _ _ (edited_cells tells grid laid slot columns places v w c.requires.rising c.args.how c.args.stamp c.args.row.now c.args.room) c.edit_at.ensures.ok)
