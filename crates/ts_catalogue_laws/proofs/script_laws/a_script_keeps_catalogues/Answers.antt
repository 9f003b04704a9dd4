use Rattle.ts_catalogue_laws.proofs.ScriptLemmas.{scripts_keep}
use Rattle.ts_catalogue_laws.proofs.script_laws.a_script_keeps_catalogues.Goals as goal

pub returns : goal.returns
returns c = scripts_keep c.a_run_keeps_catalogues.ensures c.what_a_script_asks_for_is_formed.ensures
