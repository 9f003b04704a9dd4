use Rattle.ts_rolling.specs.Sets.{control_key}
use Rattle.ts_rolling.proofs.keys.control_key.Goals as goal

pub returns : goal.returns
unfolding control_key
returns c = c.numbered_key.ensures
