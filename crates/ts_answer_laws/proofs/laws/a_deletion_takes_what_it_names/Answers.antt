use Rattle.ts_answer_laws.proofs.EditedLemmas.{element_taken, none_taken, range_taken}
use Rattle.ts_answer_laws.proofs.laws.a_deletion_takes_what_it_names.Goals as goal

pub returns : goal.returns
returns c = record { element = element_taken; none = none_taken; range = range_taken }
