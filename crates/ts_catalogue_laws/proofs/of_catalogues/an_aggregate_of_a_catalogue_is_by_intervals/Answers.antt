use Rattle.ts_catalogue_laws.proofs.OfCatalogueLemmas.{intervals_of}
use Rattle.ts_catalogue_laws.proofs.of_catalogues.an_aggregate_of_a_catalogue_is_by_intervals.Goals as goal

pub returns : goal.returns
returns c = intervals_of c.a_row_is_of_an_interval.ensures
