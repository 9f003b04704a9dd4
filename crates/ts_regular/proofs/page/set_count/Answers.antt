use Rattle.ts_regular.proofs.HeadLemmas.{headed}
use Rattle.ts_regular.proofs.page.set_count.Goals as goal

pub returns : goal.returns
returns c = λ cells count behind.
    headed c.args.shelf.now.series c.args.shelf.now.kind.now.columns c.args.base cells c.args.count c.set_head.new.self.bytes c.args.page.now.bytes count behind c.set_head.ensures.ok
