use Rattle.ts_space.proofs.PlaceLemmas.{drop_rising}
use Rattle.ts_space.proofs.PlaceLaws.{drop_own, drop_others, drop_sum}
use Rattle.ts_space.proofs.laws.a_drop_takes_out_one_place.Goals as goal

pub returns-clause-own : goal.returns-clause-own
returns-clause-own c = drop_own

pub returns-clause-others : goal.returns-clause-others
returns-clause-others c = drop_others

pub returns-clause-rising : goal.returns-clause-rising
returns-clause-rising c = drop_rising

pub returns-clause-count : goal.returns-clause-count
returns-clause-count c = drop_sum (λ place. place.count)
