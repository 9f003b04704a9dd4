use Rattle.ts_volume.proofs.CallerLemmas.{layout_meant}
use Rattle.ts_volume.proofs.laws.layouts_are_meant.Goals as goal

pub returns : goal.returns
returns c = layout_meant
