use Rattle.std.proofs.Common.{◌≡◌, ◌≤◌, take, vec_capacity}
use Rattle.ts_model.proofs.table.copied.Given as goal

abbrev pub invariant-loop-slot : goal.invariant-loop-slot
invariant-loop-slot l = record {
  slots : l.made.items ≡ take l.slot-index l.slots;
  room : l.room ≤ vec_capacity l.made;
}
