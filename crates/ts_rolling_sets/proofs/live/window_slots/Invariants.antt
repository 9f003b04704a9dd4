-- The slots of windows among the series so far.
use Rattle.std.proofs.Common.{◌≡◌, is_some, filter, take}
use Rattle.ts_rolling_sets.specs.InMemory.{window_at}
use Rattle.ts_rolling_sets.proofs.live.window_slots.Given as goal

abbrev pub invariant-loop-slot : goal.invariant-loop-slot
invariant-loop-slot l = l.slots.items ≡ filter (λ slot. is_some (window_at l.defs.definitions l.set l.container slot)) (take l.slot-index l.slot-items)
