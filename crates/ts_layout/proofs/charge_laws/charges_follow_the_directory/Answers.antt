use Rattle.ts_layout.proofs.ListedLemmas.{charge_own, charge_others}
use Rattle.ts_layout.proofs.GridLemmas.{offsets_charged}
use Rattle.ts_layout.proofs.QuotaLemmas.{charge_pages, charge_elements}
use Rattle.ts_layout.proofs.NamedChargeLemmas.{charge_named, charge_with, columns_named, quota_named}
use Rattle.ts_layout.proofs.charge_laws.charges_follow_the_directory.Goals as goal

pub returns : goal.returns
returns c = record {
  pages = charge_pages;
  own = charge_own;
  others = charge_others;
  name = charge_named;
  with = charge_with;
  elements = charge_elements;
  offsets = offsets_charged;
  columns = columns_named;
  quota = quota_named;
}
