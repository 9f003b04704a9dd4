use Rattle.ts_volume.proofs.BadPageLemmas.{nothing_meant}
use Rattle.ts_volume.proofs.first_bad_laws.bad_pages_mean_nothing.Goals as goal

pub returns : goal.returns
returns c = nothing_meant
