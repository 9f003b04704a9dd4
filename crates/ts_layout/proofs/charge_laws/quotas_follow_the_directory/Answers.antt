use Rattle.ts_layout.proofs.QuotaLemmas.{quotas_put}
use Rattle.ts_layout.proofs.charge_laws.quotas_follow_the_directory.Goals as goal

pub returns : goal.returns
returns c = record { put = quotas_put }
