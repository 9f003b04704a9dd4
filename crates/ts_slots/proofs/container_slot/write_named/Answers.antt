use Rattle.std.proofs.Common.{arith}
use Rattle.ts_slots.proofs.PartLemmas.{parts, front}
use Rattle.ts_slots.proofs.container_slot.write_named.Goals as goal

pub slice_bounds-write_name-end-2 : goal.slice_bounds-write_name-end-2
slice_bounds-write_name-end-2 c = front 33 c.args.into.now (omega arith)

pub returns : goal.returns
returns c =
    parts 33 c.args.into.now c.write_name.new.into c.write_numbers.new.into _ _
    c.write_name.ensures.bytes c.write_numbers.ensures c.write_name.auto.into c.write_numbers.auto.into (omega arith)
