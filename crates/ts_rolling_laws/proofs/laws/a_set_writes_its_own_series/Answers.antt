use Rattle.ts_rolling_laws.proofs.LeaveLemmas.{sets_stay}
use Rattle.ts_rolling_laws.proofs.laws.a_set_writes_its_own_series.Goals as goal

pub returns : goal.returns
returns c = sets_stay c.keys_are_read_exactly.ensures c.series_are_found_by_keys.ensures
