use Rattle.ts_rolling.proofs.KeyLemmas.{controls_cmp}
use Rattle.ts_rolling.proofs.laws.control_keys_rise.Goals as goal

pub returns : goal.returns
returns c = controls_cmp
