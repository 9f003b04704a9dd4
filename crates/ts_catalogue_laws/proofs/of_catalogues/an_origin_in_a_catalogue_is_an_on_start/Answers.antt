use Rattle.ts_catalogue_laws.proofs.OfCatalogueLemmas.{origins_of}
use Rattle.ts_catalogue_laws.proofs.of_catalogues.an_origin_in_a_catalogue_is_an_on_start.Goals as goal

pub returns : goal.returns
returns c = origins_of c.an_origin_is_an_on_start.ensures
