use Rattle.ts_answer_laws.proofs.KeptShapeLemmas.{shapes_kept}
use Rattle.ts_answer_laws.proofs.laws.a_series_keeps_its_shape.Goals as goal

pub returns : goal.returns
returns c = shapes_kept c.keys_are_read_exactly.ensures
