-- The texts so far are put.
use Rattle.std.proofs.Common.{take}
use Rattle.std.specs.List.{flat_map}
use Rattle.ts_dump.specs.Listed.{text_at}
use Rattle.ts_dump.specs.Placed.{ArePut}
use Rattle.ts_dump.proofs.definitions.print_all.Given as goal

abbrev pub invariant-loop-slot : goal.invariant-loop-slot
invariant-loop-slot l =
    ArePut l.fn.grouping (flat_map (text_at l.kind l.defs.definitions) (take l.slot-index l.slot-items)) l.grouping l.fn.out l.out
