use Rattle.ts_answer_laws.proofs.OffsetLemmas.{lag_by_offsets}
use Rattle.ts_answer_laws.proofs.reading_laws.a_lag_is_by_offsets.Goals as goal

pub returns : goal.returns
returns c = lag_by_offsets
