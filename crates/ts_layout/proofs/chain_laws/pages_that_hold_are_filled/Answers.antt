use Rattle.ts_layout.proofs.PageLemmas.{filled_pages}
use Rattle.ts_layout.proofs.chain_laws.pages_that_hold_are_filled.Goals as goal

pub returns : goal.returns
returns c = filled_pages
