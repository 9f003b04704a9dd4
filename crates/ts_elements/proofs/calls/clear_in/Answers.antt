use Rattle.std.proofs.Common.{IfOk, sym, subst}
use Rattle.ts_space.specs.Directory.{places_of}
use Rattle.ts_offset.specs.declared.shape.Shape.{Shape}
use Rattle.ts_elements.specs.Calls.{IsCleared}
use Rattle.ts_offset.specs.Shape.{IsLaidOut}
use Rattle.ts_elements.proofs.ChainLemmas.{ok_as, both_ok, cleared_chain}
use Rattle.ts_elements.proofs.GridLemmas.{cleared_cells}
use Rattle.ts_elements.proofs.calls.clear_in.Goals as goal

pub returns-in-Irregular-clause-ok : goal.returns-in-Irregular-clause-ok
returns-in-Irregular-clause-ok g c =
    let tells = g.P.Pages.tells in
    let slot = c.args.shelf.now.series in
    let columns = c.args.shelf.now.kind.now.columns in
    let places = places_of slot c.args.space.now in
    let v = g.P.Pages.contents c.args.pages.now in
    let w = g.P.Pages.contents c.del_clip.new.pages in
    subst (λ (s : Shape). IfOk c.del_clip.result (λ r. IsCleared tells s slot columns c.args.from c.args.to places v w r.0 r.1)) (sym c.in-Irregular.is)
    (ok_as c.del_clip.result _ _ (λ r is. cleared_chain tells slot columns places v w c.requires.some c.args.from c.args.to r.0 r.1 is) c.del_clip.ensures.ok)

pub returns-in-Regular-clause-ok : goal.returns-in-Regular-clause-ok
returns-in-Regular-clause-ok g c =
    let tells = g.P.Pages.tells in
    let slot = c.args.shelf.now.series in
    let columns = c.args.shelf.now.kind.now.columns in
    let places = places_of slot c.args.space.now in
    let v = g.P.Pages.contents c.args.pages.now in
    let w = g.P.Pages.contents c.clear_at.new.pages in
    let grid = c.in-Regular.grid in
    let laid = subst IsLaidOut c.in-Regular.is c.requires.laid in
    subst (λ (s : Shape). IfOk c.clear_at.result (λ r. IsCleared tells s slot columns c.args.from c.args.to places v w r.0 r.1)) (sym c.in-Regular.is)
    (both_ok c.clear_at.result _ _ _ (λ r free is. cleared_cells tells grid laid slot columns places v w free c.args.from c.args.to r.0 r.1 is) c.clear_at.ensures.taken c.clear_at.ensures.ok)
