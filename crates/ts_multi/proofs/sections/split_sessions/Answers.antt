use Rattle.std.proofs.Common.{arith}
use Rattle.ts_multi.proofs.SectionLemmas.{too_many}
use Rattle.ts_multi.proofs.sections.split_sessions.Goals as goal

pub returns : goal.returns
returns c =
    too_many c.args.bytes.now c.loop-index.text.now c.loop-index.found.items c.loop-index.invariant.sections
    (omega (arith, c.loop-index.found.ok.0))
