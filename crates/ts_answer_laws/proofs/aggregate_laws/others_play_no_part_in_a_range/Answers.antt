use Rattle.ts_answer_laws.proofs.RangeLemmas.{others_no_part}
use Rattle.ts_answer_laws.proofs.aggregate_laws.others_play_no_part_in_a_range.Goals as goal

pub returns : goal.returns
returns c = others_no_part
