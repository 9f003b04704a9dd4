use Rattle.ts_views.proofs.ReadLemmas.{view_taken}
use Rattle.ts_views.proofs.view_pages.ViewPagesPages.take.Goals as goal

pub invariant_of-self-clause-lawful : goal.invariant_of-self-clause-lawful
invariant_of-self-clause-lawful g c =
    let b = c.args.self.now in
    view_taken g.P.Pages.tells b.old.now.entries b.own.now.entries b.changes.now.entries (g.P.Pages.contents b.newest.now) b.free.now.items c.pop.new.self.items _ b.free.now.ok.0 c.requires c.pop.ensures.rest b.lawful
