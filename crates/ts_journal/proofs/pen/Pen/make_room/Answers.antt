use Rattle.ts_journal.proofs.PenLemmas.{adds_none}
use Rattle.ts_journal.proofs.pen.Pen.make_room.Goals as goal

pub returns-clause-written : goal.returns-clause-written
returns-clause-written g c = adds_none g.V.Volume.tells c.args.self.now (g.V.Volume.device c.args.vol.now) (g.met.V.Volume.lawful c.args.vol.now)
