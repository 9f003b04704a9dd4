use Rattle.std.proofs.Math.Facts.{Fits-lt-pow}
use Rattle.ts_disk.proofs.memory_site.all_bytes.Goals as goal

pub returns : goal.returns
returns c i = Fits-lt-pow (c.type_inv.bytes i)
