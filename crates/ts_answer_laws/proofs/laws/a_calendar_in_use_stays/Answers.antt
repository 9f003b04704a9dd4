use Rattle.ts_answer_laws.proofs.UsedLemmas.{calendar_dropped}
use Rattle.ts_answer_laws.proofs.laws.a_calendar_in_use_stays.Goals as goal

pub returns : goal.returns
returns c = calendar_dropped
