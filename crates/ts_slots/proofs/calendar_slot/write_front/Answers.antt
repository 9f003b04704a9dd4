use Rattle.std.proofs.Common.{arith}
use Rattle.ts_slots.proofs.PartLemmas.{behind}
use Rattle.ts_slots.proofs.calendar_slot.write_front.Goals as goal

pub returns : goal.returns
returns c = behind 1 c.args.into.now c.write_named.new.into _ c.write_named.ensures c.write_named.auto.into (omega arith)
