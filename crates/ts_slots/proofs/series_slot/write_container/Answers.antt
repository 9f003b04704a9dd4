use Rattle.std.proofs.Common.{arith}
use Rattle.ts_slots.proofs.PartLemmas.{behind}
use Rattle.ts_slots.proofs.series_slot.write_container.Goals as goal

pub returns : goal.returns
returns c = behind c.args.container c.args.into.now c.write_regular.new.into _ c.write_regular.ensures c.write_regular.auto.into (omega arith)
