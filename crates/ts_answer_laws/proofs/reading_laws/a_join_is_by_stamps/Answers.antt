use Rattle.ts_answer_laws.proofs.JoinedLemmas.{joins_by_stamps}
use Rattle.ts_answer_laws.proofs.reading_laws.a_join_is_by_stamps.Goals as goal

pub returns : goal.returns
returns c = joins_by_stamps
