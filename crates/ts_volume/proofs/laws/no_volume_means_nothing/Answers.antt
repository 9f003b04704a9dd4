use Rattle.ts_volume.proofs.CallerLemmas.{none_meant}
use Rattle.ts_volume.proofs.laws.no_volume_means_nothing.Goals as goal

pub returns : goal.returns
returns c = none_meant
