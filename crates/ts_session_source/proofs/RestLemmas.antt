-- Nothing is done at a volume.
use Rattle.std.proofs.Common.{Bool, refl}
use Rattle.ts_disk.specs.Device.{Device, Lawful}
use Rattle.ts_store.proofs.CallerLemmas.{reads_none}
use Rattle.ts_session_source.specs.Opened.{Rests}

pub rests_now : (tells : Bool) (v : Device) → Lawful tells v → Rests tells v v
rests_now tells v lawful = record { reads = reads_none tells v lawful; faults = refl }
