use Rattle.std.proofs.Common.{reverse, subst}
use Rattle.ts_store.specs.OpenBatch.{contents_over}
use Rattle.ts_views.specs.Pages.{view_contents}
use Rattle.ts_answer.specs.View.{view as sees}
use Rattle.ts_answer.specs.CarriedOut.{ReadOut}
use Rattle.ts_engine.specs.Engine.{Kept}
use Rattle.ts_engine.proofs.engine.Engine.read_in_view.Goals as goal

pub returns-clause-read : goal.returns-clause-read
returns-clause-read g c =
    let x = c.args.view.now in
    let r = c.read_in_view_over in
    subst (λ (k : Kept). ReadOut g.V.Volume.tells c.args.command.now r.result r.new.out
    (sees x.defs.definitions x.space (view_contents x.old.entries x.own.entries c.args.changes.now.entries (reverse c.args.free.now.items) (contents_over k.store (g.V.Volume.device c.args.vol.now))))
    (view_contents x.old.entries x.own.entries r.new.changes.entries (reverse r.new.free.items) (contents_over r.new.store (g.V.Volume.device r.new.vol)))) c.self.view_is r.ensures.read
