use Rattle.ts_container.proofs.KeptChargeLemmas.{charge_part, charge_changed}
use Rattle.ts_container.proofs.kept_charges.a_charge_changes_with_a_series.Goals as goal

pub returns-clause-part : goal.returns-clause-part
returns-clause-part c = charge_part

pub returns-clause-changed : goal.returns-clause-changed
returns-clause-changed c = charge_changed
