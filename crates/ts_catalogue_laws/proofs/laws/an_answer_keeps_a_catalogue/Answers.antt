use Rattle.ts_catalogue_laws.proofs.KeepLemmas.{answers_keep}
use Rattle.ts_catalogue_laws.proofs.laws.an_answer_keeps_a_catalogue.Goals as goal

pub returns : goal.returns
returns c = answers_keep c.an_origin_is_an_on_start.ensures
