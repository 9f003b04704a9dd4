use Rattle.std.proofs.Common.{arith}
use Rattle.ts_store.proofs.KeepLemmas.{few_spare}
use Rattle.ts_store.proofs.on.OnPages.spare.Goals as goal

pub overflow_cast-result : goal.overflow_cast-result
overflow_cast-result g c =
    omega (arith, c.spare.ensures.count, few_spare g.V.Volume.tells c.args.self.now.store.now (g.V.Volume.device c.args.self.now.vol.now) c.spare.ensures.pages c.args.self.now.lawful)
