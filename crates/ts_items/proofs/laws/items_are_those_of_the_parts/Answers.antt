use Rattle.ts_items.proofs.PartsLemmas.{items_of_split, split_of}
use Rattle.ts_items.proofs.PlaceLemmas.{unended_of_split}
use Rattle.ts_items.proofs.laws.items_are_those_of_the_parts.Goals as goal

pub returns-clause-items : goal.returns-clause-items
returns-clause-items c = items_of_split

pub returns-clause-some : goal.returns-clause-some
returns-clause-some c = split_of

pub returns-clause-last : goal.returns-clause-last
returns-clause-last c = unended_of_split
