use Rattle.ts_space.proofs.ChargeLemmas.{charge_grows}
use Rattle.ts_space.proofs.laws.more_elements_cost_no_less.Goals as goal

pub returns : goal.returns
returns c = charge_grows
