use Rattle.std.proofs.Common.{arith}
use Rattle.ts_slots.proofs.PartLemmas.{parts_padded, front}
use Rattle.ts_slots.proofs.pattern_slot.write_named.Goals as goal

pub slice_bounds-write_name-end-2 : goal.slice_bounds-write_name-end-2
slice_bounds-write_name-end-2 c = front 33 c.args.into.now (omega arith)

pub returns : goal.returns
returns c =
    parts_padded 33 4062 c.args.into.now c.write_name.new.into c.write_plan.new.into _ _
    c.write_name.ensures.bytes c.write_plan.ensures c.write_name.auto.into c.write_plan.auto.into (omega arith)
