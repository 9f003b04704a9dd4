use Rattle.std.proofs.Common.{arith, refl}
use Rattle.ts_syntax.proofs.PlaceLemmas.{behind_feed, behind_other, line-le, column-le}
use Rattle.ts_syntax.proofs.position.Position.behind_byte.Goals as goal

pub returns-then-byte-eq10 : goal.returns-then-byte-eq10
returns-then-byte-eq10 c = λ before short here.
    behind_feed before c.args.byte c.saturating_add.result 1 c.args.self c.if-byte-eq10.true here
    (omega (arith, here.line, line-le before, c.saturating_add.ensures)) refl

pub returns-else-byte-eq10 : goal.returns-else-byte-eq10
returns-else-byte-eq10 c = λ before short here.
    behind_other before c.args.byte c.saturating_add-else-byte-eq10.result c.args.self c.if-byte-eq10.false here
    (omega (arith, here.column, column-le before, c.saturating_add-else-byte-eq10.ensures))
