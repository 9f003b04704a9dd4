use Rattle.std.proofs.Common.{arith}
use Rattle.ts_pattern.proofs.CursorLemmas.{pattern-merged}
use Rattle.ts_aggregate.proofs.wanted.round_length.Goals as goal

pub returns-clause-some : goal.returns-clause-some
returns-clause-some c = omega (arith, c.length.ensures.value, (pattern-merged c.args.pattern.now.runs c.length.ensures.pattern).1)
