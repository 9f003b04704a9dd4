use Rattle.std.proofs.Common.{◌∷◌, [], arith}
use Rattle.ts_store_vectors.proofs.TransactionLemmas.{between_kept, bytes_kept}
use Rattle.ts_store_vectors.proofs.transactions.freed.Goals as goal

pub returns-clause-between : goal.returns-clause-between
returns-clause-between g c =
    between_kept g.V.Volume.tells [] c.args.store.now c.freed_on.new.store (g.V.Volume.device c.args.vol.now) (g.V.Volume.device c.freed_on.new.vol) c.requires c.freed_on.ensures.undisturbed
    c.prepare.new.self c.keep.new.self c.prepare.ensures.others c.keep.ensures.kept c.keep.ensures.read (930 ∷ []) c.freed_on.ensures.over c.in_ok-spare.ensures.free

pub returns-clause-bytes : goal.returns-clause-bytes
returns-clause-bytes g c = omega (
  arith,
  c.freed_on.ensures.bytes,
  bytes_kept g.V.Volume.tells [] c.args.store.now c.freed_on.new.store (g.V.Volume.device c.args.vol.now) (g.V.Volume.device c.freed_on.new.vol) c.requires c.freed_on.ensures.undisturbed
      c.prepare.new.self c.keep.new.self c.prepare.ensures.others c.keep.ensures.kept c.keep.ensures.read,
)
