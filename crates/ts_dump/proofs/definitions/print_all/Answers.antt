use Rattle.std.proofs.Common.{ℕ, List}
use Rattle.ts_dump.specs.Listed.{text_at}
use Rattle.ts_dump.specs.Placed.{none_put}
use Rattle.ts_dump.proofs.SayingLemmas.{slots_put}
use Rattle.ts_dump.proofs.definitions.print_all.Goals as goal

pub loop-slot-init : goal.loop-slot-init
loop-slot-init c = none_put c.args.grouping.now c.args.out.now

pub loop-slot-preserved : goal.loop-slot-preserved
loop-slot-preserved c =
    let items : List ℕ = c.in_order-slot-items.result.now in
    slots_put (text_at c.args.kind c.args.defs.now.definitions) items c.loop-slot.slot-index _ c.args.grouping.now c.loop-slot.grouping c.print_slot.new.grouping
    c.args.out.now c.loop-slot.out c.print_slot.new.out c.loop-slot-test.true c.loop-slot.invariant c.in_ok-print_slot.ensures
