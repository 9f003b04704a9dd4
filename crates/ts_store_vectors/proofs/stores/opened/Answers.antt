use Rattle.ts_store.proofs.CallerLemmas.{over_recovered, idle_recovered, closed_recovered}
use Rattle.ts_store_vectors.proofs.stores.opened.Goals as goal

pub returns-clause-idle : goal.returns-clause-idle
returns-clause-idle g c =
    let w = g.V.Volume.device c.recover.new.vol in
    idle_recovered g.V.Volume.tells c.in_ok-replayed.replayed.pages c.in_ok-replayed.replayed.journal c.in_ok-replayed.replayed.overlay.entries c.in_ok-store.store w c.in_ok-store.ensures
    (over_recovered g.V.Volume.tells c.in_ok-replayed.replayed.pages c.in_ok-replayed.replayed.journal c.in_ok-replayed.replayed.overlay.entries c.in_ok-store.store (g.V.Volume.device c.args.vol.now) w
    c.in_ok-store.ensures c.recover.ensures.others c.in_ok-replayed.ensures.count c.in_ok-replayed.ensures.size c.requires c.in_ok-replayed.ensures.ok c.in_ok-replayed.ensures.allowed)

pub returns-clause-closed : goal.returns-clause-closed
returns-clause-closed g c = closed_recovered _ _ _ c.in_ok-store.store c.in_ok-store.ensures
