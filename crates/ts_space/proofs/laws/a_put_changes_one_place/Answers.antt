use Rattle.ts_space.proofs.PlaceLemmas.{put_rising}
use Rattle.ts_space.proofs.PlaceLaws.{put_own, put_others, put_sum}
use Rattle.ts_space.proofs.laws.a_put_changes_one_place.Goals as goal

pub returns-clause-own : goal.returns-clause-own
returns-clause-own c = put_own

pub returns-clause-others : goal.returns-clause-others
returns-clause-others c = put_others

pub returns-clause-rising : goal.returns-clause-rising
returns-clause-rising c = put_rising

pub returns-clause-count : goal.returns-clause-count
returns-clause-count c = put_sum (λ place. place.count)
