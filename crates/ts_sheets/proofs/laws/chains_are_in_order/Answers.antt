use Rattle.ts_sheets.proofs.OrderLemmas.{pages_in_order}
use Rattle.ts_sheets.proofs.laws.chains_are_in_order.Goals as goal

pub returns : goal.returns
returns c = pages_in_order
