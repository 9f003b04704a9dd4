use Rattle.ts_answer_laws.proofs.ClipLemmas.{clip_counted_so}
use Rattle.ts_answer_laws.proofs.reading_laws.a_count_is_of_what_is_listed.Goals as goal

pub returns : goal.returns
returns c = clip_counted_so
