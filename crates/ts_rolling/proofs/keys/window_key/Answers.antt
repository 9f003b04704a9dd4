use Rattle.ts_rolling.specs.Sets.{window_key}
use Rattle.ts_rolling.proofs.keys.window_key.Goals as goal

pub returns : goal.returns
unfolding window_key
returns c = c.numbered_key.ensures
