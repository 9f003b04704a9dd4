-- Those gathered and those that are left are all.
use Rattle.std.proofs.Common.{◌-◌, ◌^◌, map}
use Rattle.ts_aggregate.specs.Column.{found_in, AreCells}
use Rattle.ts_aggregate.specs.Totals.{number_of_size, sized_numbers}
use Rattle.ts_aggregate.proofs.TotalsLemmas.{SoFar}
use Rattle.ts_aggregate.proofs.totals.long_totals.Given as goal

abbrev pub invariant-loop-left : goal.invariant-loop-left
invariant-loop-left l = record {
  whole : AreCells l.cells.position l.left l.bytes;
  gathered : SoFar (2 ^ 127 - 1) (sized_numbers l.size l.cells) l.sought l.so_far (map (number_of_size l.size) (found_in l.cells.position l.left l.bytes));
}

abbrev pub decreases-loop-left : goal.decreases-loop-left
decreases-loop-left l = l.left
