use Rattle.std.proofs.Common.{◌≡◌, ◌≤◌, ◌+◌, ◌-◌, ◌++◌, None, max, length, replicate, vec_capacity}
use Rattle.ts_model.proofs.table.extend.Given as goal

abbrev pub invariant-loop : goal.invariant-loop
invariant-loop l = record {
  slots : l.slots.items ≡ l.fn.slots.items ++ replicate (l.counter - length l.fn.slots.items) None;
  last : l.counter ≤ max (l.fn.slot + 1) (length l.fn.slots.items);
  room : vec_capacity l.fn.slots ≤ vec_capacity l.slots;
}
