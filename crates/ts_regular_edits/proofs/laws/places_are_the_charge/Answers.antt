use Rattle.ts_sheets.proofs.ChargeLemmas.{charged, charged_with}
use Rattle.ts_regular_edits.proofs.laws.places_are_the_charge.Goals as goal

pub returns-clause-charge : goal.returns-clause-charge
returns-clause-charge c = charged

pub returns-clause-more : goal.returns-clause-more
returns-clause-more c = charged_with
