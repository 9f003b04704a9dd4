use Rattle.std.proofs.Common.{subst, sym, List, ℕ, reverse, true}
use Rattle.std.proofs.Math.ListN.{set}
use Rattle.ts_page.specs.Pages.{kept, IsLawful}
use Rattle.ts_page.proofs.MemoryLemmas.{lawful_free}
use Rattle.ts_page.proofs.memory_pages.MemoryPagesPages.free.Goals as goal

pub invariant_of-self-2-clause-lawful : goal.invariant_of-self-2-clause-lawful
invariant_of-self-2-clause-lawful c =
    subst (λ (l : List ℕ). IsLawful true (kept (set c.args.self.now.pages.items c.args.no c.zero.result) (reverse l))) (sym c.in_ok-push.ensures.items)
    (lawful_free c.args.self.now.pages.items c.args.self.now.free.items c.args.no c.zero.result c.zero.ensures c.requires.element c.requires.within c.requires.used c.args.self.now.lawful)
