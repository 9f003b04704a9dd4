use Rattle.std.proofs.Common.{length, refl}
use Rattle.ts_layout.specs.Slot.{columns_bytes}
use Rattle.ts_slots.proofs.PartLemmas.{behind_padded}
use Rattle.ts_slots.proofs.row_type_slot.write_counted.Goals as goal

pub returns : goal.returns
returns c =
    behind_padded (length c.args.columns.now) 4028 c.args.into.now c.write_columns.new.into _ (columns_bytes c.args.columns.now)
    c.write_columns.ensures refl c.write_columns.auto.into c.requires.room
