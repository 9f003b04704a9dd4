use Rattle.ts_page.proofs.MemoryLemmas.{lawful_new}
use Rattle.ts_page.proofs.memory_pages.MemoryPages.new.Goals as goal

pub invariant_of-result-clause-lawful : goal.invariant_of-result-clause-lawful
invariant_of-result-clause-lawful c =
    lawful_new c.args.pages.items c.args.free.items c.reverse.new.self.items c.reverse.ensures.items c.requires.rising c.requires.listed
