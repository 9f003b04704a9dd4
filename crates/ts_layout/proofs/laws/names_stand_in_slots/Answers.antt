use Rattle.ts_layout.proofs.LookupLemmas.{name_stands, name_found, name_listed, no_name_found, no_name_listed}
use Rattle.ts_layout.proofs.laws.names_stand_in_slots.Goals as goal

pub returns : goal.returns
returns c = record {
  at = name_stands;
  found = name_found;
  listed = name_listed;
  none_found = no_name_found;
  none_listed = no_name_listed;
}
