use Rattle.std.proofs.Common.{IfOk, sym, subst}
use Rattle.ts_space.specs.Directory.{places_of}
use Rattle.ts_offset.specs.declared.shape.Shape.{Shape}
use Rattle.ts_elements.specs.Calls.{IsMarked}
use Rattle.ts_offset.specs.Shape.{IsLaidOut}
use Rattle.ts_elements.proofs.ChainLemmas.{ok_as, marked_chain}
use Rattle.ts_elements.proofs.GridLemmas.{marked_cells}
use Rattle.ts_elements.proofs.calls.mark_in.Goals as goal

pub returns-in_ok-there-in-Irregular-clause-ok : goal.returns-in_ok-there-in-Irregular-clause-ok
returns-in_ok-there-in-Irregular-clause-ok g c =
    let tells = g.P.Pages.tells in
    let slot = c.args.shelf.now.series in
    let columns = c.args.shelf.now.kind.now.columns in
    let places = places_of slot c.args.space.now in
    let v = g.P.Pages.contents c.args.pages.now in
    let w = g.P.Pages.contents c.chain_mark.new.pages in
    subst (λ (s : Shape). IsMarked tells s slot columns c.args.stamp c.args.hidden places v w c.stamp_if.result) (sym c.in-Irregular.is)
    (marked_chain tells slot columns places v w c.args.stamp c.args.hidden c.in_ok-there-in-Irregular.there c.stamp_if.result c.in_ok-there-in-Irregular.ensures.ok c.stamp_if.ensures.there c.stamp_if.ensures.none)

pub returns-in-Regular-clause-ok : goal.returns-in-Regular-clause-ok
returns-in-Regular-clause-ok g c =
    let tells = g.P.Pages.tells in
    let slot = c.args.shelf.now.series in
    let columns = c.args.shelf.now.kind.now.columns in
    let places = places_of slot c.args.space.now in
    let v = g.P.Pages.contents c.args.pages.now in
    let w = g.P.Pages.contents c.mark_at.new.pages in
    let grid = c.in-Regular.grid in
    let laid = subst IsLaidOut c.in-Regular.is c.requires.laid in
    subst (λ (s : Shape). IfOk c.mark_at.result (IsMarked tells s slot columns c.args.stamp c.args.hidden places v w)) (sym c.in-Regular.is)
    (ok_as c.mark_at.result _ _ (marked_cells tells grid laid slot columns places v w c.args.stamp c.args.hidden) c.mark_at.ensures.ok)
