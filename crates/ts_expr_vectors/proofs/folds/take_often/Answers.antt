use Rattle.std.proofs.Common.{◌++◌, ◌∷◌, [], length-append, arith}
use Rattle.ts_row.specs.Row.{Row}
use Rattle.ts_expr_vectors.proofs.folds.take_often.Goals as goal

pub loop-init : goal.loop-init
loop-init c = record { rows = []; so_far = c.in_ok-running.ensures; few = omega arith }

pub take-requires-clause-so_far : goal.take-requires-clause-so_far
take-requires-clause-so_far c =
    let is = c.loop.invariant in
    record { rows = is.rows; so_far = is.so_far; few = omega (arith, is.few, c.loop-test.true, c.ranges.count.fits) }

pub loop-preserved : goal.loop-preserved
loop-preserved c =
    let is = c.loop.invariant in
    let r : Row = c.args.row.now in
    record {
      rows = is.rows ++ r ∷ [];
      so_far = c.in_ok-take.ensures is.rows is.so_far;
      few = omega (arith, length-append is.rows (r ∷ []), is.few);
    }
