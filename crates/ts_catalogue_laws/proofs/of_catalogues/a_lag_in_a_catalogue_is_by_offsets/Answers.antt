use Rattle.ts_catalogue_laws.proofs.OfCatalogueLemmas.{lags_of}
use Rattle.ts_catalogue_laws.proofs.of_catalogues.a_lag_in_a_catalogue_is_by_offsets.Goals as goal

pub returns : goal.returns
returns c = lags_of c.a_lag_is_by_offsets.ensures
