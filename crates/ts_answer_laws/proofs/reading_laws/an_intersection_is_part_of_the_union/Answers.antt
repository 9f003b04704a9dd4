use Rattle.ts_answer_laws.proofs.PartLemmas.{intersection_part}
use Rattle.ts_answer_laws.proofs.reading_laws.an_intersection_is_part_of_the_union.Goals as goal

pub returns : goal.returns
returns c = intersection_part
