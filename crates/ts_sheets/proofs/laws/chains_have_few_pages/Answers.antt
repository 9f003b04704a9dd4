use Rattle.ts_sheets.proofs.DenseLemmas.{within_charge}
use Rattle.ts_sheets.proofs.laws.chains_have_few_pages.Goals as goal

pub returns : goal.returns
returns c = within_charge
