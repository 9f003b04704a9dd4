use Rattle.ts_answer_laws.proofs.OriginLemmas.{origin_made}
use Rattle.ts_answer_laws.proofs.laws.an_origin_is_an_on_start.Goals as goal

pub returns : goal.returns
returns c = origin_made
