use Rattle.ts_layout.proofs.SeriesChainLemmas.{series_chain, series_on_grid, series_rises}
use Rattle.ts_layout.proofs.ChainCountLemmas.{len_counted}
use Rattle.ts_layout.proofs.chain_laws.a_series_is_on_its_pages.Goals as goal

pub returns : goal.returns
returns c = record {
  chain = series_chain;
  grid = series_on_grid;
  rising = series_rises;
  count = len_counted;
}
