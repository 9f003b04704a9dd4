use Rattle.ts_multi.proofs.ScheduleLemmas.{shuffled, order-length}
use Rattle.ts_multi.proofs.laws.an_order_is_a_shuffle.Goals as goal

pub returns-clause-items : goal.returns-clause-items
returns-clause-items g c = λ left picks enough session. shuffled left picks enough session

pub returns-clause-others : goal.returns-clause-others
returns-clause-others g c = λ left picks enough. order-length left picks enough
