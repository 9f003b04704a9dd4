use Rattle.std.proofs.Common.{◌≡◌, ◌≤◌, map, take, vec_capacity}
use Rattle.ts_space.proofs.DirectoryLemmas.{items_of}
use Rattle.ts_space.proofs.space.Space.copy.Given as goal

abbrev pub invariant-loop-list : goal.invariant-loop-list
invariant-loop-list l = record {
  copied : map items_of l.lists.items ≡ map items_of (take l.list-index l.self-inside.lists.items);
  room : 4096 ≤ vec_capacity l.lists;
}
