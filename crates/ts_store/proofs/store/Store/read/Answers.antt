use Rattle.ts_store.proofs.CacheLemmas.{sound_got}
use Rattle.ts_store.proofs.store.Store.read.Goals as goal

pub invariant_of-self : goal.invariant_of-self
invariant_of-self c =
    sound_got c.self.inside.replayed.pages c.args.no c.self.inside.replayed.overlay.entries c.self.inside.transaction.entries c.self.inside.batch.entries c.self.inside.cache c.get.new.self c.get.ensures.order c.self.invariant
