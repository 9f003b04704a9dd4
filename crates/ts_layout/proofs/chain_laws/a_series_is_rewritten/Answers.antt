use Rattle.ts_layout.proofs.RewrittenLemmas.{rewritten_bytes, rewritten_lists, rewritten_held, rewritten_catalogue}
use Rattle.ts_layout.proofs.chain_laws.a_series_is_rewritten.Goals as goal

pub returns : goal.returns
returns c = record {
  bytes = rewritten_bytes;
  places = rewritten_lists;
  kept = rewritten_held;
  catalogue = rewritten_catalogue;
}
