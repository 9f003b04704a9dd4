use Rattle.std.proofs.Common.{[]}
use Rattle.ts_store_vectors.proofs.TransactionLemmas.{between_rolled_back}
use Rattle.ts_store_vectors.proofs.transactions.rolled_back.Goals as goal

pub dropped-requires : goal.dropped-requires
dropped-requires g c = between_rolled_back g.V.Volume.tells [] c.args.store.now c.rollback.new.self (g.V.Volume.device c.args.vol.now) c.rollback.ensures c.requires
