use Rattle.std.proofs.Common.{arith}
use Rattle.ts_running.proofs.DigitLemmas.{few_digits}
use Rattle.ts_running.proofs.read.small_number.Goals as goal

pub overflow_cast-result : goal.overflow_cast-result
overflow_cast-result c =
    let small = few_digits c.magnitude-number.result c.args.digits.now c.magnitude-number.ensures.bound c.requires in
    omega (arith, small)
