use Rattle.ts_rolling.proofs.KeyLemmas.{window_form, control_form}
use Rattle.ts_rolling.proofs.laws.keys_are_read_exactly.Goals as goal

pub returns : goal.returns
returns c = record { window = window_form; control = control_form }
