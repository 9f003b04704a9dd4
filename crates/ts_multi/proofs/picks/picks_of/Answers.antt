use Rattle.std.proofs.Common.{arith}
use Rattle.std.proofs.lemmas.Grind.{common_steps}
use Rattle.ts_multi.proofs.PickLemmas.{drawn-more, picks_of-more, picks_of-none}
use Rattle.ts_multi.proofs.picks.picks_of.Goals as goal

pub loop-index-init : goal.loop-index-init
loop-index-init c = let none = picks_of-none c.args.seed in grind (arith, common_steps)

pub loop-index-preserved : goal.loop-index-preserved
loop-index-preserved c =
    let drawn = drawn-more c.args.seed c.loop-index._index in
    let more = picks_of-more c.args.seed c.loop-index._index in
    grind (arith, common_steps)
