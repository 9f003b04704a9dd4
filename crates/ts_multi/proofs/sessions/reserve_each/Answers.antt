use Rattle.std.proofs.Common.{◌∙◌, arith}
use Rattle.ts_multi.proofs.SlotLemmas.{pending-set, room-set}
use Rattle.ts_multi.proofs.sessions.reserve_each.Goals as goal

pub returns-in_err-reserve-clause-others : goal.returns-in_err-reserve-clause-others
returns-in_err-reserve-clause-others c =
    pending-set c.loop-slot.slots c.loop-slot.slot-index c.slot-item.result c.reserve.new.self (omega arith)
    c.reserve.ensures.others
    ∙ c.loop-slot.invariant.same

pub loop-slot-preserved : goal.loop-slot-preserved
loop-slot-preserved c = record {
  same = pending-set c.loop-slot.slots c.loop-slot.slot-index c.slot-item.result c.reserve.new.self (omega arith)
      c.reserve.ensures.others
      ∙ c.loop-slot.invariant.same;
  room = room-set c.loop-slot.slots c.loop-slot.slot-index c.reserve.new.self (omega arith) c.in_ok-reserve.ensures.ok c.loop-slot.invariant.room;
}
