-- As the table has them.
use Rattle.std.proofs.Common.{[], ◌∷◌}
use Rattle.ts_say.proofs.PairsLemmas.{pair_at}
use Rattle.ts_say.proofs.pairs.two_digits.Goals as goal

pub returns : goal.returns
returns c =
    let both = pair_at c.args.n c.requires in
    λ j. both.0 j ∷ both.1 j ∷ []
