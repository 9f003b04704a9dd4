use Rattle.ts_volume.proofs.FirstBadLemmas.{one_first_bad}
use Rattle.ts_volume.proofs.first_bad_laws.there_is_one_first_bad_page.Goals as goal

pub returns : goal.returns
returns c = one_first_bad
