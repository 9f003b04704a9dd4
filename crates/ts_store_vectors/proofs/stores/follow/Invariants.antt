use Rattle.std.proofs.Common.{◌≡◌, []}
use Rattle.ts_store.specs.OpenBatch.{IsIdle, IsClosed}
use Rattle.ts_store_vectors.proofs.stores.follow.Given as goal

abbrev pub invariant-loop-row : goal.invariant-loop-row
invariant-loop-row g l = record {
  idle : IsIdle g.V.Volume.tells l.store (g.V.Volume.device l.vol);
  closed : IsClosed l.store;
  free : l.store.free ≡ [];
}
