use Rattle.ts_catalogue_laws.proofs.RunLemmas.{empty_is}
use Rattle.ts_catalogue_laws.proofs.laws.a_store_of_nothing_is_a_catalogue.Goals as goal

pub returns : goal.returns
returns c = empty_is
