use Rattle.ts_layout.proofs.SeriesDroppedLemmas.{series_gone_bytes, series_gone_held, series_gone_catalogue}
use Rattle.ts_layout.proofs.chain_laws.a_series_is_dropped_with_its_pages.Goals as goal

pub returns : goal.returns
returns c = record {
  bytes = series_gone_bytes;
  kept = series_gone_held;
  catalogue = series_gone_catalogue;
}
