use Rattle.ts_rolling.proofs.KeyLemmas.{windows_cmp}
use Rattle.ts_rolling.proofs.laws.window_keys_rise.Goals as goal

pub returns : goal.returns
returns c = windows_cmp
