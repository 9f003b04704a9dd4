use Rattle.ts_answer_laws.proofs.EditedLemmas.{put_stands}
use Rattle.ts_answer_laws.proofs.laws.a_put_on_a_grid_stands_at_its_address.Goals as goal

pub returns : goal.returns
returns c = put_stands
