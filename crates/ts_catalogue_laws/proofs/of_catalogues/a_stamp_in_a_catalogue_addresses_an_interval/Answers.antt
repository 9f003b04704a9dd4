use Rattle.ts_catalogue_laws.proofs.OfCatalogueLemmas.{addresses_of}
use Rattle.ts_catalogue_laws.proofs.of_catalogues.a_stamp_in_a_catalogue_addresses_an_interval.Goals as goal

pub returns : goal.returns
returns c = addresses_of c.a_stamp_addresses_its_interval.ensures
