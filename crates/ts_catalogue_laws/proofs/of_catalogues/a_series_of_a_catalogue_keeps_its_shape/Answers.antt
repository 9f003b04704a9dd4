use Rattle.ts_catalogue_laws.proofs.OfCatalogueLemmas.{shapes_of}
use Rattle.ts_catalogue_laws.proofs.of_catalogues.a_series_of_a_catalogue_keeps_its_shape.Goals as goal

pub returns : goal.returns
returns c = shapes_of c.a_series_keeps_its_shape.ensures
