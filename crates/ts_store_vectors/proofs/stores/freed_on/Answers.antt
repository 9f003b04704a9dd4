use Rattle.std.proofs.Common.{length, ap, arith}
use Rattle.ts_store.proofs.CallerLemmas.{first_element}
use Rattle.ts_store_vectors.proofs.stores.freed_on.Goals as goal

pub freed-requires-clause-within : goal.freed-requires-clause-within
freed-requires-clause-within g c = first_element g.V.Volume.tells c.args.store.now (g.V.Volume.device c.args.vol.now) c.requires.over

pub freed-requires-clause-used : goal.freed-requires-clause-used
freed-requires-clause-used g c found = absurd (omega (arith, found.1, ap length c.requires.free))
