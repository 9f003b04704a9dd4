use Rattle.ts_volume.proofs.CallerLemmas.{one_catalogue}
use Rattle.ts_volume.proofs.laws.bytes_mean_one_catalogue.Goals as goal

pub returns : goal.returns
returns c = one_catalogue
