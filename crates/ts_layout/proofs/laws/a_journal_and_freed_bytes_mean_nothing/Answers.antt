use Rattle.ts_layout.proofs.LayoutLemmas.{layout_stays}
use Rattle.ts_layout.proofs.laws.a_journal_and_freed_bytes_mean_nothing.Goals as goal

pub returns : goal.returns
returns c = layout_stays
