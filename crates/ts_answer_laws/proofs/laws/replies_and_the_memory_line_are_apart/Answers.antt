use Rattle.ts_answer.proofs.ApartLemmas.{apart}
use Rattle.ts_answer_laws.proofs.laws.replies_and_the_memory_line_are_apart.Goals as goal

pub returns : goal.returns
returns c = apart
