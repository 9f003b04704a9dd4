-- Where the top call does nothing.
use Rattle.std.proofs.Common.{refl}
use Rattle.ts_disk.specs.Device.{Device}
use Rattle.ts_shell.specs.Top.{Untouched}

-- nothing was done
pub untouched_now : (v : Device) → Untouched v v
untouched_now v = record { size = refl; held = refl; no_more = λ image now. now; no_fewer = λ image now. now; clock = refl; syncs = refl; faults = refl; said = refl; say_faults = refl }
