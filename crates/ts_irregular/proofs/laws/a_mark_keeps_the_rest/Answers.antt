use Rattle.ts_irregular.proofs.CallerLemmas.{mark_in_order, count_kept}
use Rattle.ts_irregular.proofs.laws.a_mark_keeps_the_rest.Goals as goal

pub returns-clause-order : goal.returns-clause-order
returns-clause-order c = mark_in_order

pub returns-clause-count : goal.returns-clause-count
returns-clause-count c = count_kept
