use Rattle.ts_expr.specs.Aggregates.{item_in, further, list_in}
use Rattle.ts_expr.proofs.EndLemmas.{few_in_place}
use Rattle.ts_expr.proofs.GrammarLemmas.{item_yields}
use Rattle.ts_expr.proofs.list.aggregates_are_refused_in_place.Goals as goal

pub returns : goal.returns
unfolding list_in further
returns c = few_in_place item_in item_yields 31
