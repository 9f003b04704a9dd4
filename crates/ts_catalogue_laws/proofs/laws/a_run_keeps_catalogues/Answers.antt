use Rattle.ts_catalogue_laws.proofs.RunLemmas.{run_keeps}
use Rattle.ts_catalogue_laws.proofs.laws.a_run_keeps_catalogues.Goals as goal

pub returns : goal.returns
returns c = run_keeps c.an_answer_keeps_a_catalogue.ensures
