use Rattle.std.proofs.Common.{◌+◌, arith}
use Rattle.ts_aggregate.proofs.PieceLemmas.{start_before}
use Rattle.ts_aggregate.proofs.run.offsets_before.Goals as goal

pub returns-then-behind-offset-clause-before : goal.returns-then-behind-offset-clause-before
returns-then-behind-offset-clause-before c = λ k s laid some low at. absurd (omega (arith, some, low))

pub returns-clause-before : goal.returns-clause-before
returns-clause-before c = λ k s laid some low at.
    start_before c.args.grid.now laid c.args.end c.offset_from-behind.result c.offset_from-behind.ensures (c.args.offset + k) s
    (omega (arith, low, c.min.ensures)) at
