use Rattle.std.proofs.Common.{ap, subst, ◌∙◌, ◌*◌}
use Rattle.ts_store.specs.OpenBatch.{State, AreInPlace}
use Rattle.ts_store.proofs.KeepLemmas.{take_lawful}
use Rattle.ts_store.proofs.on.OnPages.take.Goals as goal

pub invariant_of-self-clause-size : goal.invariant_of-self-clause-size
invariant_of-self-clause-size g c = c.args.self.now.size ∙ ap (λ (s : State). 4096 * s.pages) c.take.ensures

pub invariant_of-self-clause-lawful : goal.invariant_of-self-clause-lawful
invariant_of-self-clause-lawful g c =
    take_lawful g.V.Volume.tells c.args.self.now.store.now c.take.new.self (g.V.Volume.device c.args.self.now.vol.now) c.take.result c.take.ensures c.args.self.now.lawful

pub invariant_of-self-clause-cached : goal.invariant_of-self-clause-cached
invariant_of-self-clause-cached g c told =
    subst (AreInPlace (g.V.Volume.device c.args.self.now.vol.now).held) (ap (λ (s : State). s.cache) c.take.ensures) (c.args.self.now.cached told)
