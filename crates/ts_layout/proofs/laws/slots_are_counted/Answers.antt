use Rattle.ts_layout.proofs.LookupLemmas.{vacant_found, kind_vacant, kind_full, quotas_same}
use Rattle.ts_layout.proofs.laws.slots_are_counted.Goals as goal

pub returns : goal.returns
returns c = record {
  vacant = vacant_found;
  fewer = kind_vacant;
  full = kind_full;
  quotas = quotas_same;
}
