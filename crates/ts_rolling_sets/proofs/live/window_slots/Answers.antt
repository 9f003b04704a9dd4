use Rattle.std.proofs.Common.{is_some, ap, ◌∙◌, Option, ℕ}
use Rattle.ts_rolling_sets.specs.InMemory.{window_at}
use Rattle.ts_rolling_sets.proofs.OrderLemmas.{kept_next}
use Rattle.ts_rolling_sets.proofs.live.window_slots.Goals as goal

pub loop-slot-preserved : goal.loop-slot-preserved
loop-slot-preserved c =
    kept_next (λ slot. is_some (window_at c.args.defs.now.definitions c.args.set.now c.args.container slot)) c.in_order-slot-items.result.now c.loop-slot.slot-index c.loop-slot.slots.items c.add_slot.new.slots.items c.is_some-is.result
    c.loop-slot-test.true c.loop-slot.invariant (c.is_some-is.ensures ∙ ap (λ (o : Option ℕ). is_some o) c.window_at.ensures) c.in_ok-add_slot.ensures
