use Rattle.std.proofs.Common.{◌≡◌, take}
use Rattle.ts_row.specs.Row.{width_of}
use Rattle.ts_aggregate.proofs.folding.width_before.Given as goal

abbrev pub invariant-loop-column : goal.invariant-loop-column
invariant-loop-column l = l.width ≡ width_of (take l.column-index l.column-items)
