use Rattle.std.proofs.Common.{◌≤◌, ◌+◌, ◌-◌, max, length, vec_capacity}
use Rattle.ts_space.proofs.DirectoryLemmas.{Grown}
use Rattle.ts_space.proofs.space.grow.Given as goal

abbrev pub invariant-loop : goal.invariant-loop
invariant-loop l = record {
  grown : Grown (l.counter - length l.fn.lists.items) l.fn.lists.items l.lists.items l.fn.counts.items l.counts.items;
  last : l.counter ≤ max (l.fn.slot + 1) (length l.fn.lists.items);
  room : vec_capacity l.fn.lists ≤ vec_capacity l.lists;
  counts_room : vec_capacity l.fn.counts ≤ vec_capacity l.counts;
}
