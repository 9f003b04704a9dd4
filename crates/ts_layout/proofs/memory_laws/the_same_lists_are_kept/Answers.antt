use Rattle.ts_layout.proofs.QuotasKeptLemmas.{kept_alike}
use Rattle.ts_layout.proofs.memory_laws.the_same_lists_are_kept.Goals as goal

pub returns : goal.returns
returns c = kept_alike
