use Rattle.std.proofs.Common.{refl, ap}
use Rattle.std.proofs.lemmas.Result.{on_ok_weaker, on_err_weaker}
use Rattle.ts_store.specs.OpenBatch.{State}
use Rattle.ts_store.proofs.KeepLemmas.{free_lawful, free_done, free_undisturbed, same_undisturbed, same_size}
use Rattle.ts_store.proofs.CacheLemmas.{forgot_cached}
use Rattle.ts_store.proofs.on.OnPages.free.Goals as goal

pub invariant_of-self-clause-size : goal.invariant_of-self-clause-size
invariant_of-self-clause-size g c =
    same_size g.V.Volume.tells c.args.self.now.store.now c.free.new.self (g.V.Volume.device c.args.self.now.vol.now) c.args.no c.free.result
    (on_ok_weaker c.free.result (λ done. ap (λ (s : State). s.pages) done) c.free.ensures.ok) (on_err_weaker c.free.result (λ same. ap (λ (s : State). s.pages) same) c.free.ensures.err) c.args.self.now.size

pub invariant_of-self-clause-lawful : goal.invariant_of-self-clause-lawful
invariant_of-self-clause-lawful g c =
    free_lawful g.V.Volume.tells c.args.self.now.store.now c.free.new.self (g.V.Volume.device c.args.self.now.vol.now) c.args.no c.free.result c.free.ensures.ok c.free.ensures.err c.requires.element c.requires.within c.requires.used c.args.self.now.lawful

pub returns-clause-freed : goal.returns-clause-freed
returns-clause-freed g c =
    free_done g.V.Volume.tells c.args.self.now.store.now c.free.new.self (g.V.Volume.device c.args.self.now.vol.now) c.args.no c.in_ok-free.ensures.ok

pub invariant_of-self-clause-cached : goal.invariant_of-self-clause-cached
invariant_of-self-clause-cached g c told =
    forgot_cached (g.V.Volume.device c.args.self.now.vol.now).held c.args.no c.free.result c.args.self.now.store.now c.free.new.self
    (on_ok_weaker c.free.result (λ done. ap (λ (s : State). s.cache) done) c.free.ensures.ok) (on_err_weaker c.free.result (λ same. ap (λ (s : State). s.cache) same) c.free.ensures.err) (c.args.self.now.cached told)

pub returns-in_err-free-clause-undisturbed : goal.returns-in_err-free-clause-undisturbed
returns-in_err-free-clause-undisturbed g c =
    (refl, refl, same_undisturbed g.V.Volume.tells c.args.self.now.store.now c.free.new.self (g.V.Volume.device c.args.self.now.vol.now) (g.met.V.Volume.lawful c.args.self.now.vol.now) c.args.no c.in_err-free.ensures.err)

pub returns-clause-undisturbed : goal.returns-clause-undisturbed
returns-clause-undisturbed g c =
    (refl, refl, free_undisturbed g.V.Volume.tells c.args.self.now.store.now c.free.new.self (g.V.Volume.device c.args.self.now.vol.now) (g.met.V.Volume.lawful c.args.self.now.vol.now) c.args.no c.in_ok-free.ensures.ok)
