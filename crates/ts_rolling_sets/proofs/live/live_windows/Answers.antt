use Rattle.ts_rolling_sets.specs.InMemory.{window_at}
use Rattle.ts_rolling_sets.proofs.OrderLemmas.{picked_next}
use Rattle.ts_rolling_sets.proofs.live.live_windows.Goals as goal

pub loop-slot-preserved : goal.loop-slot-preserved
loop-slot-preserved c =
    picked_next (window_at c.args.defs.now.definitions c.args.set.now c.args.container) c.in_order-slot-items.result.now c.loop-slot.slot-index c.loop-slot.live.items c.add_window.new.live.items c.window_at.result
    c.loop-slot-test.true c.loop-slot.invariant c.window_at.ensures c.in_ok-add_window.ensures
