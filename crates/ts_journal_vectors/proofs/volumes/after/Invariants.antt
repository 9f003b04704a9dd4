use Rattle.ts_disk.specs.Device.{Only}
use Rattle.ts_disk.specs.Memory.{site_device}
use Rattle.ts_journal_vectors.proofs.volumes.after.Given as goal

abbrev pub invariant-loop-step : goal.invariant-loop-step
invariant-loop-step l = Only (site_device l.site).held (site_device l.site).images
