use Rattle.std.proofs.Common.{IfOk, sym, subst}
use Rattle.ts_space.specs.Directory.{places_of}
use Rattle.ts_offset.specs.declared.shape.Shape.{Shape}
use Rattle.ts_elements.specs.Calls.{IsFound}
use Rattle.ts_offset.specs.Shape.{IsLaidOut}
use Rattle.ts_elements.proofs.ChainLemmas.{ok_as}
use Rattle.ts_elements.proofs.GridLemmas.{found_cells}
use Rattle.ts_elements.proofs.found.find_in.Goals as goal

pub returns-in-Regular-clause-found : goal.returns-in-Regular-clause-found
returns-in-Regular-clause-found g c =
    let tells = g.P.Pages.tells in
    let slot = c.args.shelf.now.series in
    let columns = c.args.shelf.now.kind.now.columns in
    let places = places_of slot c.args.space.now in
    let v = g.P.Pages.contents c.args.pages.now in
    let w = g.P.Pages.contents c.find_at.new.pages in
    let grid = c.in-Regular.grid in
    let laid = subst IsLaidOut c.in-Regular.is c.requires.laid in
    subst (λ (s : Shape). IfOk c.find_at.result (IsFound tells s slot columns c.args.stamp places v)) (sym c.in-Regular.is)
    (ok_as c.find_at.result _ _ (found_cells tells grid laid slot columns places v w c.args.stamp) c.find_at.ensures.found)
