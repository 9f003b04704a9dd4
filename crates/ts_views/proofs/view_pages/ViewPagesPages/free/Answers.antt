use Rattle.std.proofs.Common.{reverse}
use Rattle.ts_views.proofs.ReadLemmas.{view_freed_lawful, view_freed, pushed}
use Rattle.ts_views.proofs.view_pages.ViewPagesPages.free.Goals as goal

pub invariant_of-self-in_default-clause-lawful : goal.invariant_of-self-in_default-clause-lawful
invariant_of-self-in_default-clause-lawful g c =
    let b = c.args.self.now in
    view_freed_lawful g.P.Pages.tells b.old.now.entries b.own.now.entries b.changes.now.entries c.set-outcome.new.self.entries (g.P.Pages.contents b.newest.now) c.args.no (reverse b.free.now.items) (reverse c.push.new.self.items)
    (pushed b.free.now.items c.push.new.self.items c.args.no c.in_ok-push.ensures.items) c.in_default.ensures.ok c.requires.element c.requires.within c.requires.used b.lawful

pub returns-clause-freed : goal.returns-clause-freed
returns-clause-freed g c =
    let b = c.args.self.now in
    view_freed g.P.Pages.tells b.old.now.entries b.own.now.entries b.changes.now.entries c.set-outcome.new.self.entries (g.P.Pages.contents b.newest.now) c.args.no (reverse b.free.now.items) (reverse c.push.new.self.items)
    (pushed b.free.now.items c.push.new.self.items c.args.no c.in_ok-push.ensures.items) c.in_default.ensures.ok
