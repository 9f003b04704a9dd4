use Rattle.ts_answer_laws.proofs.EditedLemmas.{put_adds}
use Rattle.ts_answer_laws.proofs.laws.a_put_replaces_no_element.Goals as goal

pub returns : goal.returns
returns c = put_adds
