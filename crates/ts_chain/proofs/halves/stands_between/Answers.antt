use Rattle.std.proofs.Common.{arith}
use Rattle.ts_chain.proofs.LessLemmas.{stand_alone, stand_below, stand_above}
use Rattle.ts_chain.proofs.halves.stands_between.Goals as goal

pub returns-then-index-places-clause-yes : goal.returns-then-index-places-clause-yes
returns-then-index-places-clause-yes c = λ hit front place back parts same. stand_alone c.args.places.now c.args.index c.args.second.now.at front place back (omega arith) parts same

pub returns-clause-yes : goal.returns-clause-yes
returns-clause-yes c = λ hit front place back parts same.
    stand_below c.args.places.now c.args.index _ c.args.second.now.at c.requires.rising front place back (omega arith) parts same (c.begins_below-2.ensures.yes hit)

pub returns-clause-no : goal.returns-clause-no
returns-clause-no c = λ front place back parts same low above.
    c.begins_below-2.ensures.no (stand_above c.args.places.now c.args.index _ c.args.second.now.at front place back (omega arith) parts same above)
