use Rattle.std.proofs.Common.{ℤ, Option, Some, sym, ap, subst}
use Rattle.ts_aggregate.specs.Groups.{IsAhead}
use Rattle.ts_aggregate.proofs.by_interval.stamp_at.Goals as goal

pub returns-in-Some : goal.returns-in-Some
returns-in-Some c = λ t has.
    let known : IsAhead c.args.stamps.now c.args.number (Some c.in-Some.stamp) =
    subst (λ (o : Option ℤ). IsAhead c.args.stamps.now c.args.number o) c.in-Some.is c.requires.ahead in
    ap (λ (z : ℤ). Some z) (sym (known c.args.cell.now t has))
