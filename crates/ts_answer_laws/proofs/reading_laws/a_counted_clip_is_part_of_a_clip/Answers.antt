use Rattle.ts_answer_laws.proofs.CountedLemmas.{counted_parts}
use Rattle.ts_answer_laws.proofs.reading_laws.a_counted_clip_is_part_of_a_clip.Goals as goal

pub returns : goal.returns
returns c = counted_parts
