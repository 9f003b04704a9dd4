use Rattle.ts_catalogue_laws.proofs.ScriptLemmas.{scripts_formed}
use Rattle.ts_catalogue_laws.proofs.script_laws.what_a_script_asks_for_is_formed.Goals as goal

pub returns : goal.returns
returns c = scripts_formed c.statements_are_tokens.ensures
