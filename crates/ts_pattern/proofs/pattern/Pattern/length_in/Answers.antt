use Rattle.std.proofs.Common.{arith}
use Rattle.std.proofs.Math.Nat.{one-le-mul}
use Rattle.ts_pattern.proofs.CursorLemmas.{pattern-merged}
use Rattle.ts_pattern.proofs.pattern.Pattern.length_in.Goals as goal

pub returns-clause-some : goal.returns-clause-some
returns-clause-some c =
    let long = (pattern-merged c.self.inside.runs.items c.self.invariant.1).1 in
    one-le-mul (omega (arith, c.self.invariant.0)) c.factor.ensures.some
