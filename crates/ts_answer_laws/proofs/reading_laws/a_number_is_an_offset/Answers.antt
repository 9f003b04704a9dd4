use Rattle.ts_answer_laws.proofs.OffsetLemmas.{nth_at_offset}
use Rattle.ts_answer_laws.proofs.reading_laws.a_number_is_an_offset.Goals as goal

pub returns : goal.returns
returns c = nth_at_offset
