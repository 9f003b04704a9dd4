use Rattle.ts_irregular.proofs.HeadLemmas.{headed}
use Rattle.ts_chain.proofs.page.set_count.Goals as goal

pub returns : goal.returns
returns c = λ es count same. headed c.args.shelf.now.series c.args.shelf.now.kind.now.columns es c.args.count c.set_head.new.self.bytes c.args.page.now.bytes count same c.set_head.ensures.ok
