-- The windows among the series so far.
use Rattle.std.proofs.Common.{◌≡◌, take}
use Rattle.std.specs.List.{filter_map}
use Rattle.ts_rolling_sets.specs.InMemory.{window_at}
use Rattle.ts_rolling_sets.proofs.live.live_windows.Given as goal

abbrev pub invariant-loop-slot : goal.invariant-loop-slot
invariant-loop-slot l = l.live.items ≡ filter_map (window_at l.defs.definitions l.set l.container) (take l.slot-index l.slot-items)
