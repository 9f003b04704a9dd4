use Rattle.std.proofs.Common.{◌∷◌, [], arith}
use Rattle.ts_store_vectors.proofs.TransactionLemmas.{between_kept, bytes_kept}
use Rattle.ts_store_vectors.proofs.transactions.taken.Goals as goal

pub returns-clause-between : goal.returns-clause-between
returns-clause-between g c =
    between_kept g.V.Volume.tells (930 ∷ []) c.args.store.now c.taken_on-page.new.store (g.V.Volume.device c.args.vol.now) (g.V.Volume.device c.taken_on-page.new.vol) c.requires c.taken_on-page.ensures.undisturbed
    c.prepare.new.self c.keep.new.self c.prepare.ensures.others c.keep.ensures.kept c.keep.ensures.read [] c.taken_on-page.ensures.over c.taken_on-page.ensures.free

pub returns-clause-bytes : goal.returns-clause-bytes
returns-clause-bytes g c = omega (
  arith,
  c.taken_on-page.ensures.bytes,
  bytes_kept g.V.Volume.tells (930 ∷ []) c.args.store.now c.taken_on-page.new.store (g.V.Volume.device c.args.vol.now) (g.V.Volume.device c.taken_on-page.new.vol) c.requires c.taken_on-page.ensures.undisturbed
      c.prepare.new.self c.keep.new.self c.prepare.ensures.others c.keep.ensures.kept c.keep.ensures.read,
)
