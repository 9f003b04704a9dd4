use Rattle.std.proofs.Common.{arith, false}
use Rattle.std.proofs.Math.Nat.{mul-le-mul_right}
use Rattle.ts_pattern.specs.Patterns.{run}
use Rattle.ts_pattern.proofs.CursorLemmas.{count-le}
use Rattle.ts_pattern.proofs.runs.scaled_runs.Goals as goal

pub scaled-requires : goal.scaled-requires
scaled-requires c =
    let few = count-le c.args.runs.now c.loop-run.run-index (run false 0) c.loop-run-test.true in
    omega (arith, mul-le-mul_right c.args.parts few, c.requires.small)
