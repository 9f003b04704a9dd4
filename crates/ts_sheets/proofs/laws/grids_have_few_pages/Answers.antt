use Rattle.ts_sheets.proofs.ChargeLemmas.{charged}
use Rattle.ts_sheets.proofs.laws.grids_have_few_pages.Goals as goal

pub returns : goal.returns
returns c = charged
