use Rattle.std.proofs.Common.{length, ap, arith}
use Rattle.ts_store.proofs.CallerLemmas.{first_element}
use Rattle.ts_store_vectors.proofs.often.put_often_on.Goals as goal

pub put_often-requires-clause-within : goal.put_often-requires-clause-within
put_often-requires-clause-within g c = first_element g.V.Volume.tells c.args.store.now (g.V.Volume.device c.args.vol.now) c.requires.over

pub put_often-requires-clause-used : goal.put_often-requires-clause-used
put_often-requires-clause-used g c found = absurd (omega (arith, found.1, ap length c.requires.free))
