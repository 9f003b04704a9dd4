use Rattle.std.proofs.Common.{refl, reverse}
use Rattle.ts_journal.specs.declared.batch.Change.TheVariants.{Image}
use Rattle.ts_views.proofs.ReadLemmas.{view_lawful, view_put}
use Rattle.ts_views.proofs.view_pages.ViewPagesPages.put.Goals as goal

pub invariant_of-self-clause-lawful : goal.invariant_of-self-clause-lawful
invariant_of-self-clause-lawful g c =
    let b = c.args.self.now in
    view_lawful g.P.Pages.tells b.old.now.entries b.own.now.entries b.changes.now.entries c.set.new.self.entries (g.P.Pages.contents b.newest.now) c.args.no c.set.result (Image c.args.page.now) (reverse b.free.now.items) c.set.ensures.ok c.set.ensures.err c.requires.used b.lawful

pub returns-clause-put : goal.returns-clause-put
returns-clause-put g c =
    let b = c.args.self.now in
    view_put g.P.Pages.tells b.old.now.entries b.own.now.entries b.changes.now.entries c.set.new.self.entries (g.P.Pages.contents b.newest.now) c.args.no (Image c.args.page.now) c.args.page.now.bytes (reverse b.free.now.items) refl c.in_ok-set.ensures.ok
