use Rattle.ts_running.proofs.EndLemmas.{list_in_place}
use Rattle.ts_running.proofs.list.expressions_are_refused_in_place.Goals as goal

pub returns : goal.returns
returns c = list_in_place
