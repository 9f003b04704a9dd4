use Rattle.ts_answer.proofs.OutcomeLemmas.{ok_lines_are_answers}
use Rattle.ts_answer.proofs.laws.ok_lines_are_answers.Goals as goal

pub returns : goal.returns
returns c = ok_lines_are_answers
