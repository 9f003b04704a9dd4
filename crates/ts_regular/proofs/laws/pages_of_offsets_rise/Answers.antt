use Rattle.ts_regular.proofs.PlaceLemmas.{pages_rise}
use Rattle.ts_regular.proofs.laws.pages_of_offsets_rise.Goals as goal

pub returns : goal.returns
returns c = pages_rise
