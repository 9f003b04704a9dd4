use Rattle.ts_space.proofs.ChargeLemmas.{chain_places}
use Rattle.ts_space.proofs.laws.a_chain_is_within_its_charge.Goals as goal

pub returns : goal.returns
returns c = chain_places
