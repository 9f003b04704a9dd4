use Rattle.std.proofs.Common.{arith}
use Rattle.ts_layout.specs.Slot.{container_bytes}
use Rattle.ts_slots.proofs.PartLemmas.{behind}
use Rattle.ts_slots.proofs.container_slot.write_container.Goals as goal

pub returns : goal.returns
unfolding container_bytes
returns c = behind 1 c.args.slot.now c.write_named.new.into _ c.write_named.ensures c.write_named.auto.into (omega arith)
