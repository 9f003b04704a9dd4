use Rattle.std.proofs.Common.{arith}
use Rattle.ts_slots.proofs.PartLemmas.{parts}
use Rattle.ts_slots.proofs.calendar_slot.write_starts.Goals as goal

pub returns : goal.returns
returns c =
    parts 8 c.args.into.now c.write_stamp.new.into c.write_stamp-2.new.into _ _
    c.write_stamp.ensures c.write_stamp-2.ensures c.write_stamp.auto.into c.write_stamp-2.auto.into (omega arith)
