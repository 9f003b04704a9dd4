use Rattle.std.specs.Int.{w32, to_be_bytes}
use Rattle.ts_slots.proofs.PartLemmas.{behind_padded}
use Rattle.ts_slots.proofs.container_slot.write_numbers.Goals as goal

pub returns : goal.returns
returns c = behind_padded c.args.row_type 25 c.args.into.now c.pad.new.into _ (to_be_bytes w32 c.args.quota) c.pad.ensures c.to_be_bytes.ensures c.pad.auto.into c.requires
