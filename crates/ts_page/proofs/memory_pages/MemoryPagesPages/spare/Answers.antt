use Rattle.std.proofs.Common.{◌∙◌, arith}
use Rattle.ts_page.proofs.MemoryLemmas.{few_spare}
use Rattle.ts_page.proofs.memory_pages.MemoryPagesPages.spare.Goals as goal

pub overflow_cast-result : goal.overflow_cast-result
overflow_cast-result c =
    omega (arith, few_spare c.args.self.now.pages.items c.args.self.now.free.items c.len.result (c.len.ensures ∙ c.args.self.now.free.ok.0) c.args.self.now.few c.args.self.now.lawful)
