use Rattle.ts_volume.proofs.CallerLemmas.{same_means}
use Rattle.ts_volume.proofs.laws.same_pages_mean_the_same.Goals as goal

pub returns : goal.returns
returns c = same_means
