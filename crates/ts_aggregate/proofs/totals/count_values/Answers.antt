use Rattle.std.proofs.Common.{ap, length, arith}
use Rattle.ts_aggregate.proofs.CellsLemmas.{found-few}
use Rattle.ts_aggregate.proofs.totals.count_values.Goals as goal

pub overflow_add-count : goal.overflow_add-count
overflow_add-count c =
    let cells = c.args.cells in
    omega (
      arith,
      c.loop-more.invariant.count,
      ap length c.in-Some.ensures.first,
      found-few cells.position cells.left cells.bytes.now c.requires,
      c.ranges.cells.0,
    )
