use Rattle.ts_catalogue_laws.proofs.OfCatalogueLemmas.{numbers_of}
use Rattle.ts_catalogue_laws.proofs.of_catalogues.a_number_in_a_catalogue_is_an_offset.Goals as goal

pub returns : goal.returns
returns c = numbers_of c.a_number_is_an_offset.ensures
