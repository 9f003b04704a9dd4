-- The lines so far are said.
use Rattle.std.proofs.Common.{◌≡◌, ◌++◌, take}
use Rattle.std.specs.List.{flat_map}
use Rattle.ts_check.specs.Listed.{line_at}
use Rattle.ts_check.proofs.report.say_containers.Given as goal

abbrev pub invariant-loop-slot : goal.invariant-loop-slot
invariant-loop-slot l = l.out ≡ l.fn.out ++ flat_map (line_at l.defs.definitions l.charges) (take l.slot-index l.slot-items)
