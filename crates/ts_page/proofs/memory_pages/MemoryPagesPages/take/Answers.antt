use Rattle.ts_page.proofs.MemoryLemmas.{lawful_take}
use Rattle.ts_page.proofs.memory_pages.MemoryPagesPages.take.Goals as goal

pub invariant_of-self-clause-lawful : goal.invariant_of-self-clause-lawful
invariant_of-self-clause-lawful c =
    lawful_take c.args.self.now.pages.items c.args.self.now.free.items c.pop.new.self.items _ c.args.self.now.free.ok.0 c.requires c.pop.ensures.rest c.args.self.now.lawful
