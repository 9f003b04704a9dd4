use Rattle.ts_cells.specs.IrregularPage.{page_room}
use Rattle.ts_sheets.proofs.OrderLemmas.{sized_pages}
use Rattle.ts_sheets.proofs.DenseLemmas.{within_charge}
use Rattle.ts_chain.proofs.laws.a_chain_is_within_its_charge.Goals as goal

pub returns : goal.returns
returns c = λ columns chain some is. within_charge (page_room columns) chain some (sized_pages columns chain is.pages) is.dense
