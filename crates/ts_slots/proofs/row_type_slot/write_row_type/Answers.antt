use Rattle.std.proofs.Common.{arith}
use Rattle.ts_layout.specs.Slot.{row_type_bytes}
use Rattle.ts_slots.proofs.PartLemmas.{behind}
use Rattle.ts_slots.proofs.row_type_slot.write_row_type.Goals as goal

pub returns : goal.returns
unfolding row_type_bytes
returns c = behind 1 c.args.page.now c.write_named.new.into _ c.write_named.ensures c.write_named.auto.into (omega arith)
