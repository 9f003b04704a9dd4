use Rattle.ts_container.proofs.KeptChargeLemmas.{charged_in}
use Rattle.ts_container.proofs.kept_charges.charges_are_the_same_in_every_format.Goals as goal

pub returns : goal.returns
returns c = charged_in
