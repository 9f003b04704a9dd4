use Rattle.ts_layout.proofs.StampLemmas.{map_entries, map_found, map_put, map_taken, map_count}
use Rattle.ts_layout.proofs.chain_laws.elements_are_a_map_by_stamps.Goals as goal

pub returns : goal.returns
returns c = record {
  entries = map_entries;
  found = map_found;
  put = map_put;
  taken = map_taken;
  count = map_count;
}
