use Rattle.std.proofs.Common.{sym, arith}
use Rattle.ts_pattern.proofs.MultipleLemmas.{least-is, least-positive, least-bounds}
use Rattle.ts_pattern.proofs.multiple.common_multiple.Goals as goal

pub returns-clause-value : goal.returns-clause-value
returns-clause-value c =
    sym (least-is c.args.a c.args.b _ c.requires.0 c.requires.1 c.common_divisor-divisor.ensures.divisor)

pub returns-clause-some : goal.returns-clause-some
returns-clause-some c =
    let same = least-is c.args.a c.args.b _ c.requires.0 c.requires.1 c.common_divisor-divisor.ensures.divisor in
    omega (arith, same, least-positive c.args.a c.args.b)

pub returns-clause-left : goal.returns-clause-left
returns-clause-left c =
    let same = least-is c.args.a c.args.b _ c.requires.0 c.requires.1 c.common_divisor-divisor.ensures.divisor in
    omega (arith, same, (least-bounds c.args.a c.args.b c.requires.0 c.requires.1).0)

pub returns-clause-right : goal.returns-clause-right
returns-clause-right c =
    let same = least-is c.args.a c.args.b _ c.requires.0 c.requires.1 c.common_divisor-divisor.ensures.divisor in
    omega (arith, same, (least-bounds c.args.a c.args.b c.requires.0 c.requires.1).1)
