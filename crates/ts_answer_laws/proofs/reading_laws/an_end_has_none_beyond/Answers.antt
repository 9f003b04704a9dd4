use Rattle.ts_answer_laws.proofs.EndLemmas.{ends_listed}
use Rattle.ts_answer_laws.proofs.reading_laws.an_end_has_none_beyond.Goals as goal

pub returns : goal.returns
returns c = ends_listed
