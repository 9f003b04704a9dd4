use Rattle.std.proofs.Common.{arith, ap}
use Rattle.ts_pattern.specs.declared.run.Run.{Run}
use Rattle.ts_pattern.specs.Patterns.{run}
use Rattle.std.proofs.Common.{false}
use Rattle.ts_pattern.proofs.CursorLemmas.{total-take-next, run-read}
use Rattle.ts_pattern.proofs.cursor.run_around.Goals as goal

pub returns-then-before-run-clause-end : goal.returns-then-before-run-clause-end
returns-then-before-run-clause-end c =
    omega (arith, total-take-next c.args.runs.now c.loop-index.index (run false 0) c.loop-index-test.true)

pub returns-then-before-run-clause-inside : goal.returns-then-before-run-clause-inside
returns-then-before-run-clause-inside c =
    λ r e. omega (arith, ap (λ (x : Run). x.count) (run-read c.args.runs.now c.loop-index.index (run false 0) r e))
