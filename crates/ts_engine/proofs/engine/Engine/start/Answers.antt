use Rattle.ts_engine.proofs.SyncLemmas.{unsynced, synced_started}
use Rattle.ts_engine.proofs.engine.Engine.start.Goals as goal

pub returns-in-Ok : goal.returns-in-Ok
returns-in-Ok g c =
    synced_started g.V.Volume.tells (g.V.Volume.device c.args.vol.now) (g.V.Volume.device c.sync.new.self) (g.V.Volume.device c.open.new.vol)
    (g.met.V.Volume.lawful c.args.vol.now) (g.met.V.Volume.lawful c.sync.new.self) c.in-Ok.ensures c.open.result c.open.ensures.opened

pub returns-in-Err : goal.returns-in-Err
returns-in-Err g c =
    unsynced g.V.Volume.tells c.in-Err.field-0 (g.V.Volume.device c.args.vol.now) (g.V.Volume.device c.sync.new.self) (g.met.V.Volume.lawful c.args.vol.now) c.in-Err.ensures
