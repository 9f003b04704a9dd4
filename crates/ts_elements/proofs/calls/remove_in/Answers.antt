use Rattle.std.proofs.Common.{IfOk, sym, subst}
use Rattle.ts_space.specs.Directory.{places_of}
use Rattle.ts_offset.specs.declared.shape.Shape.{Shape}
use Rattle.ts_elements.specs.Calls.{IsRemoved}
use Rattle.ts_offset.specs.Shape.{IsLaidOut}
use Rattle.ts_elements.proofs.ChainLemmas.{ok_as, removed_chain}
use Rattle.ts_elements.proofs.GridLemmas.{removed_cells}
use Rattle.ts_elements.proofs.calls.remove_in.Goals as goal

pub returns-in-Irregular-clause-ok : goal.returns-in-Irregular-clause-ok
returns-in-Irregular-clause-ok g c =
    let tells = g.P.Pages.tells in
    let slot = c.args.shelf.now.series in
    let columns = c.args.shelf.now.kind.now.columns in
    let places = places_of slot c.args.space.now in
    let v = g.P.Pages.contents c.args.pages.now in
    let w = g.P.Pages.contents c.chain_remove.new.pages in
    subst (λ (s : Shape). IfOk c.chain_remove.result (IsRemoved tells s slot columns c.args.stamp places v w)) (sym c.in-Irregular.is)
    (ok_as c.chain_remove.result _ _ (removed_chain tells slot columns places v w c.requires.some c.args.stamp) c.chain_remove.ensures.ok)

pub returns-in-Regular-clause-ok : goal.returns-in-Regular-clause-ok
returns-in-Regular-clause-ok g c =
    let tells = g.P.Pages.tells in
    let slot = c.args.shelf.now.series in
    let columns = c.args.shelf.now.kind.now.columns in
    let places = places_of slot c.args.space.now in
    let v = g.P.Pages.contents c.args.pages.now in
    let w = g.P.Pages.contents c.delete_at.new.pages in
    let grid = c.in-Regular.grid in
    let laid = subst IsLaidOut c.in-Regular.is c.requires.laid in
    subst (λ (s : Shape). IfOk c.delete_at.result (IsRemoved tells s slot columns c.args.stamp places v w)) (sym c.in-Regular.is)
    (ok_as c.delete_at.result _ _ (removed_cells tells grid laid slot columns places v w c.delete_at.ensures.taken c.args.stamp) c.delete_at.ensures.ok)
