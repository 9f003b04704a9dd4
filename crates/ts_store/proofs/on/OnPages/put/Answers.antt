use Rattle.std.proofs.Common.{refl, ap, arith}
use Rattle.std.proofs.lemmas.Result.{on_ok_weaker, on_err_weaker}
use Rattle.ts_journal.specs.declared.batch.Change.TheVariants.{Image}
use Rattle.ts_store.specs.OpenBatch.{State}
use Rattle.ts_store.proofs.KeepLemmas.{put_lawful, put_done, put_undisturbed, same_undisturbed, same_size}
use Rattle.ts_store.proofs.CacheLemmas.{forgot_cached}
use Rattle.ts_store.proofs.on.OnPages.put.Goals as goal

pub invariant_of-self-clause-size : goal.invariant_of-self-clause-size
invariant_of-self-clause-size g c =
    same_size g.V.Volume.tells c.args.self.now.store.now c.set.new.self (g.V.Volume.device c.args.self.now.vol.now) c.args.no c.set.result
    (on_ok_weaker c.set.result (λ done. ap (λ (s : State). s.pages) done) c.set.ensures.ok) (on_err_weaker c.set.result (λ same. ap (λ (s : State). s.pages) same) c.set.ensures.err) c.args.self.now.size

pub invariant_of-self-clause-lawful : goal.invariant_of-self-clause-lawful
invariant_of-self-clause-lawful g c =
    put_lawful g.V.Volume.tells c.args.self.now.store.now c.set.new.self (g.V.Volume.device c.args.self.now.vol.now) c.args.no c.set.result (Image c.args.page.now) c.set.ensures.ok c.set.ensures.err c.requires.used c.args.self.now.lawful

pub returns-clause-put : goal.returns-clause-put
returns-clause-put g c =
    put_done g.V.Volume.tells c.args.self.now.store.now c.set.new.self (g.V.Volume.device c.args.self.now.vol.now) c.args.no c.args.page.now c.rules.ensures (omega arith) c.in_ok-set.ensures.ok

pub invariant_of-self-clause-cached : goal.invariant_of-self-clause-cached
invariant_of-self-clause-cached g c told =
    forgot_cached (g.V.Volume.device c.args.self.now.vol.now).held c.args.no c.set.result c.args.self.now.store.now c.set.new.self
    (on_ok_weaker c.set.result (λ done. ap (λ (s : State). s.cache) done) c.set.ensures.ok) (on_err_weaker c.set.result (λ same. ap (λ (s : State). s.cache) same) c.set.ensures.err) (c.args.self.now.cached told)

pub returns-in_err-set-clause-undisturbed : goal.returns-in_err-set-clause-undisturbed
returns-in_err-set-clause-undisturbed g c =
    (refl, refl, same_undisturbed g.V.Volume.tells c.args.self.now.store.now c.set.new.self (g.V.Volume.device c.args.self.now.vol.now) (g.met.V.Volume.lawful c.args.self.now.vol.now) c.args.no c.in_err-set.ensures.err)

pub returns-clause-undisturbed : goal.returns-clause-undisturbed
returns-clause-undisturbed g c =
    (refl, refl, put_undisturbed g.V.Volume.tells c.args.self.now.store.now c.set.new.self (g.V.Volume.device c.args.self.now.vol.now) (g.met.V.Volume.lawful c.args.self.now.vol.now) c.args.no (Image c.args.page.now) c.in_ok-set.ensures.ok)
