use Rattle.ts_catalogue_laws.proofs.OfCatalogueLemmas.{references_there}
use Rattle.ts_catalogue_laws.proofs.of_catalogues.what_a_series_refers_to_is_there.Goals as goal

pub returns : goal.returns
returns c = references_there
