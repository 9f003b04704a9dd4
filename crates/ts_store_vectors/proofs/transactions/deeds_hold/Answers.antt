use Rattle.std.proofs.Common.{arith}
use Rattle.ts_store_vectors.proofs.TransactionLemmas.{between_closed, bytes_closed}
use Rattle.ts_store_vectors.proofs.transactions.deeds_hold.Goals as goal

pub loop-deed-init : goal.loop-deed-init
loop-deed-init g c =
    let s = c.args.store.now in
    let v = g.V.Volume.device c.args.vol.now in
    record {
      between = between_closed g.V.Volume.tells s v c.requires.idle c.requires.closed c.requires.free;
      bytes = omega (arith, bytes_closed g.V.Volume.tells s v c.requires.idle c.requires.closed);
    }
