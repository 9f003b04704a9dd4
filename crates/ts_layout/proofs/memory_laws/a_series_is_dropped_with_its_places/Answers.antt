use Rattle.ts_layout.proofs.QuotasKeptLemmas.{series_gone_kept}
use Rattle.ts_layout.proofs.memory_laws.a_series_is_dropped_with_its_places.Goals as goal

pub returns : goal.returns
returns c = series_gone_kept
