use Rattle.std.proofs.Common.{arith}
use Rattle.ts_chain.proofs.LessLemmas.{begin_below, begin_alone, rising_next}
use Rattle.ts_chain.proofs.remove.left_of.Goals as goal

pub left_below-requires : goal.left_below-requires
left_below-requires c = rising_next c.args.places.now c.args.index _ _ c.requires.rising (omega arith)

pub returns-then-index-places-clause-begins : goal.returns-then-index-places-clause-begins
returns-then-index-places-clause-begins c = begin_below c.args.places.now c.args.index _ _ c.args.read.now.at c.left_below.result.at c.requires.rising (omega arith) c.left_below.ensures.low c.left_below.ensures.below c.left_below.ensures.told

pub returns-clause-begins : goal.returns-clause-begins
returns-clause-begins c = begin_alone c.args.places.now c.args.index _ c.args.read.now.at c.left_alone.result.at (omega arith) c.left_alone.ensures.low c.left_alone.ensures.told
