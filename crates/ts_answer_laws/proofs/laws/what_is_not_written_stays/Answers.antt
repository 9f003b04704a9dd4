use Rattle.ts_answer_laws.proofs.WrittenLemmas.{written_alone}
use Rattle.ts_answer_laws.proofs.laws.what_is_not_written_stays.Goals as goal

pub returns : goal.returns
returns c = written_alone
