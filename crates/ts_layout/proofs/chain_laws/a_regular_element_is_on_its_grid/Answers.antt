use Rattle.ts_layout.proofs.OnStartLemmas.{on_its_grid}
use Rattle.ts_layout.proofs.chain_laws.a_regular_element_is_on_its_grid.Goals as goal

pub returns : goal.returns
returns c = on_its_grid
