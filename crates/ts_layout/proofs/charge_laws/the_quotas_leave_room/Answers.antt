use Rattle.ts_layout.proofs.QuotaLemmas.{listed_quotas, quotas_room, quotas_countable}
use Rattle.ts_layout.proofs.charge_laws.the_quotas_leave_room.Goals as goal

pub returns : goal.returns
returns c = record {
  quotas = listed_quotas;
  room = quotas_room;
  countable = quotas_countable;
}
