use Rattle.std.proofs.Common.{◌-◌, refl, arith}
use Rattle.ts_chain.proofs.EndLemmas.{has_before}
use Rattle.ts_chain.proofs.halves.before_within.Goals as goal

pub returns-then-fits_before : goal.returns-then-fits_before
returns-then-fits_before c = λ front back parts long.
    let low = c.if-fits_before.ensures.low refl in
    has_before c.args.places.now c.args.index (c.args.index - 1) _ c.args.room c.args.count front back parts long (omega (arith, low)) (c.if-fits_before.ensures.yes refl front back parts long)
