-- The windows so far, which are all old.
use Rattle.std.proofs.Common.{◌≡◌, take, filter}
use Rattle.std.specs.List.{filter_map}
use Rattle.ts_rolling.specs.Sets.{is_old}
use Rattle.ts_rolling_sets.specs.InMemory.{window_at}
use Rattle.ts_rolling_sets.proofs.near.old_of.Given as goal

abbrev pub invariant-loop-slot : goal.invariant-loop-slot
invariant-loop-slot l = record {
  all : l.old.items ≡ filter_map (window_at l.defs.definitions l.set l.container) (take l.slot-index l.slots);
  old : filter (is_old l.n l.top) l.old.items ≡ l.old.items;
}
