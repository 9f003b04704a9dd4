use Rattle.std.proofs.Common.{◌*◌, ◌≤◌, []}
use Rattle.ts_store.specs.OpenBatch.{contents_over}
use Rattle.ts_store_vectors.specs.Transaction.{IsBetween}
use Rattle.ts_store_vectors.proofs.transactions.deeds_hold.Given as goal

abbrev pub invariant-loop-deed : goal.invariant-loop-deed
invariant-loop-deed g l = record {
  between : IsBetween g.V.Volume.tells [] l.store (g.V.Volume.device l.vol);
  bytes : (contents_over l.store (g.V.Volume.device l.vol)).change_bytes ≤ 4101 * l.deed-index;
}
