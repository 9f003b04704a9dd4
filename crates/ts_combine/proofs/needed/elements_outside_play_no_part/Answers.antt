-- What is joined in a range goes by the elements that are enough.
use Rattle.ts_combine.proofs.NeededLemmas.{joined-within, series-within}
use Rattle.ts_combine.proofs.needed.elements_outside_play_no_part.Goals as goal

pub returns-clause-joined : goal.returns-clause-joined
returns-clause-joined c = joined-within

pub returns-clause-series : goal.returns-clause-series
returns-clause-series c = series-within
