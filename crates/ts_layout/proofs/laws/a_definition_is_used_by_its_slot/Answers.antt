use Rattle.ts_layout.proofs.LookupLemmas.{used_by_name, used_by_slot, unused_by_name, unused_by_slot}
use Rattle.ts_layout.proofs.laws.a_definition_is_used_by_its_slot.Goals as goal

pub returns : goal.returns
returns c = record {
  used = used_by_name;
  user = used_by_slot;
  unused = unused_by_name;
  idle = unused_by_slot;
}
