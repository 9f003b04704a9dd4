use Rattle.ts_sheets.proofs.OrderLemmas.{pages_in_order}
use Rattle.ts_chain.proofs.laws.a_chain_is_in_order.Goals as goal

pub returns : goal.returns
returns c = λ columns chain is. pages_in_order columns chain is.pages
