use Rattle.std.proofs.Common.{refl}
use Rattle.ts_chain.proofs.EndLemmas.{has_behind}
use Rattle.ts_chain.proofs.halves.behind_within.Goals as goal

pub returns-then-fits_behind : goal.returns-then-fits_behind
returns-then-fits_behind c = λ front place back parts long.
    has_behind c.args.places.now c.args.index _ c.args.room c.args.count front place back parts long (c.if-fits_behind.ensures.yes refl front place back parts long)
