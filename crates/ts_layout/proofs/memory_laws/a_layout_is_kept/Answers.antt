use Rattle.ts_layout.proofs.LayoutKeptLemmas.{kept_in}
use Rattle.ts_layout.proofs.memory_laws.a_layout_is_kept.Goals as goal

pub returns : goal.returns
returns c = kept_in
