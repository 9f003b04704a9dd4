use Rattle.ts_answer_laws.proofs.UsedLemmas.{pattern_dropped}
use Rattle.ts_answer_laws.proofs.laws.a_pattern_in_use_stays.Goals as goal

pub returns : goal.returns
returns c = pattern_dropped
