use Rattle.ts_layout.proofs.SeriesSheetLemmas.{chain_is_sheets, pages_are_on}
use Rattle.ts_layout.proofs.chain_laws.pages_are_sheets.Goals as goal

pub returns : goal.returns
returns c = record {
  chain = chain_is_sheets;
  grid = pages_are_on;
}
