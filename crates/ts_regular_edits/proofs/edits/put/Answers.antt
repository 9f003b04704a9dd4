use Rattle.ts_space.specs.Directory.{places_of}
use Rattle.ts_regular_edits.proofs.EditLemmas.{full_done}
use Rattle.ts_regular_edits.proofs.edits.put.Goals as goal

pub returns-then-is_full-clause-done : goal.returns-then-is_full-clause-done
returns-then-is_full-clause-done g c =
    let full = c.is_full.ensures in
    λ how allowed. full_done g.P.Pages.tells c.args.shelf.now.series c.args.shelf.now.kind.now.columns how c.args.offset c.args.start c.args.row.now c.args.room
    (places_of c.args.shelf.now.series c.args.space.now) (g.P.Pages.contents c.args.pages.now) full.rising (full.needs c.if-is_full.true) (full.over c.if-is_full.true) allowed
