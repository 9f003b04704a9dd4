use Rattle.std.proofs.Common.{arith, ◌∙◌}
use Rattle.ts_views.proofs.ReadLemmas.{view_few}
use Rattle.ts_views.proofs.view_pages.ViewPagesPages.spare.Goals as goal

pub overflow_cast-result : goal.overflow_cast-result
overflow_cast-result g c =
    let b = c.args.self.now in
    omega (arith, view_few g.P.Pages.tells b.old.now.entries b.own.now.entries b.changes.now.entries (g.P.Pages.contents b.newest.now) b.free.now.items c.len.result (c.len.ensures ∙ b.free.now.ok.0) b.few b.lawful)
