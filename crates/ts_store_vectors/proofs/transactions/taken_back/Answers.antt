use Rattle.std.proofs.Common.{◌∷◌, []}
use Rattle.ts_store_vectors.proofs.TransactionLemmas.{between_dropped, bytes_dropped}
use Rattle.ts_store_vectors.proofs.transactions.taken_back.Goals as goal

pub returns-clause-between : goal.returns-clause-between
returns-clause-between g c =
    between_dropped g.V.Volume.tells (930 ∷ []) c.args.store.now c.taken_on-page.new.store (g.V.Volume.device c.args.vol.now) (g.V.Volume.device c.taken_on-page.new.vol) c.requires c.taken_on-page.ensures.undisturbed c.discard.new.self c.discard.ensures

pub returns-clause-bytes : goal.returns-clause-bytes
returns-clause-bytes g c =
    bytes_dropped g.V.Volume.tells (930 ∷ []) c.args.store.now c.taken_on-page.new.store (g.V.Volume.device c.args.vol.now) (g.V.Volume.device c.taken_on-page.new.vol) c.requires c.taken_on-page.ensures.undisturbed c.discard.new.self c.discard.ensures
