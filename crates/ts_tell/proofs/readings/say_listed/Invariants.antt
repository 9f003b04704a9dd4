-- The series so far are said and counted.
use Rattle.std.proofs.Common.{◌≡◌, ◌≤◌, ◌++◌, length, take}
use Rattle.std.specs.List.{flat_map}
use Rattle.ts_answer.specs.Reply.{series_line}
use Rattle.ts_tell.specs.Listed.{listed_at}
use Rattle.ts_tell.proofs.readings.say_listed.Given as goal

abbrev pub invariant-loop-slot : goal.invariant-loop-slot
invariant-loop-slot l = record {
  said : l.out ≡ l.fn.out ++ flat_map series_line (flat_map (listed_at l.defs.definitions l.space l.container) (take l.slot-index l.slot-items));
  count : l.count ≡ length (flat_map (listed_at l.defs.definitions l.space l.container) (take l.slot-index l.slot-items));
  few : l.count ≤ l.slot-index;
}
