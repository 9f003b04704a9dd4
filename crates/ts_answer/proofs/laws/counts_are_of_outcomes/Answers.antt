use Rattle.ts_answer.proofs.OutcomeLemmas.{counts_are_of_outcomes}
use Rattle.ts_answer.proofs.laws.counts_are_of_outcomes.Goals as goal

pub returns : goal.returns
returns c = counts_are_of_outcomes
