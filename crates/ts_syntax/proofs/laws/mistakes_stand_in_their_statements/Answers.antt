use Rattle.ts_syntax.proofs.LawLemmas.{all_in_turn}
use Rattle.ts_syntax.proofs.laws.mistakes_stand_in_their_statements.Goals as goal

pub returns : goal.returns
returns c = all_in_turn
