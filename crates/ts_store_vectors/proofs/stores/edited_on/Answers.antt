use Rattle.std.proofs.Common.{length, ap, arith}
use Rattle.ts_store.proofs.CallerLemmas.{first_element}
use Rattle.ts_store_vectors.proofs.stores.edited_on.Goals as goal

pub edited-requires-clause-within : goal.edited-requires-clause-within
edited-requires-clause-within g c = first_element g.V.Volume.tells c.args.store.now (g.V.Volume.device c.args.vol.now) c.requires.over

pub edited-requires-clause-used : goal.edited-requires-clause-used
edited-requires-clause-used g c found = absurd (omega (arith, found.1, ap length c.requires.free))
