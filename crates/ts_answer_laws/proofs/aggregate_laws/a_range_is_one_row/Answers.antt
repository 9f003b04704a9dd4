use Rattle.ts_answer_laws.proofs.RangeLemmas.{ranges_folded}
use Rattle.ts_answer_laws.proofs.aggregate_laws.a_range_is_one_row.Goals as goal

pub returns : goal.returns
returns c = ranges_folded
