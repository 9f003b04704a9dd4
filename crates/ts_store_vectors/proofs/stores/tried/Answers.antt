use Rattle.ts_store.proofs.CallerLemmas.{idle_dropped, closed_dropped}
use Rattle.ts_store_vectors.proofs.stores.tried.Goals as goal

pub returns-clause-idle : goal.returns-clause-idle
returns-clause-idle g c =
    idle_dropped g.V.Volume.tells c.args.store.now c.edited_on.new.store c.discard.new.self (g.V.Volume.device c.args.vol.now) (g.V.Volume.device c.edited_on.new.vol) c.requires.idle c.edited_on.ensures.undisturbed c.discard.ensures

pub returns-clause-closed : goal.returns-clause-closed
returns-clause-closed g c =
    closed_dropped g.V.Volume.tells c.args.store.now c.edited_on.new.store c.discard.new.self (g.V.Volume.device c.args.vol.now) (g.V.Volume.device c.edited_on.new.vol) c.requires.closed c.requires.idle.kept_free c.edited_on.ensures.undisturbed c.discard.ensures
