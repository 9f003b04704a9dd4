-- The stamps so far are said.
use Rattle.std.proofs.Common.{◌≡◌, ◌++◌, take}
use Rattle.std.specs.List.{flat_map}
use Rattle.ts_answer.specs.Reply.{stamp_row}
use Rattle.ts_say.proofs.say_calendars.say_rows.Given as goal

abbrev pub invariant-loop-stamp : goal.invariant-loop-stamp
invariant-loop-stamp l = l.out ≡ l.fn.out ++ flat_map stamp_row (take l.stamp-index l.stamps)
