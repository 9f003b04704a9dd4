use Rattle.ts_answer_laws.proofs.GroupLemmas.{intervals_listed}
use Rattle.ts_answer_laws.proofs.aggregate_laws.a_row_is_of_an_interval.Goals as goal

pub returns : goal.returns
returns c = intervals_listed
