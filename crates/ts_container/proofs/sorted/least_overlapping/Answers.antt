use Rattle.std.proofs.Common.{arith}
use Rattle.ts_container.proofs.ClashLemmas.{least_clash}
use Rattle.ts_container.proofs.sorted.least_overlapping.Goals as goal

pub returns : goal.returns
returns c = least_clash c.args.spans.now c.loop-high.low c.loop-high.high c.loop-high.invariant.1 c.loop-high.invariant.2 (omega (arith, c.loop-high-test.false, c.loop-high.invariant.0))
