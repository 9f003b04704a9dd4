use Rattle.ts_answer_laws.proofs.CountLemmas.{counts_of_elements}
use Rattle.ts_answer_laws.proofs.aggregate_laws.a_count_is_of_elements.Goals as goal

pub returns : goal.returns
returns c = counts_of_elements
