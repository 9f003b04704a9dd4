use Rattle.ts_syntax.proofs.LawLemmas.{all_refusals}
use Rattle.ts_syntax.proofs.laws.mistakes_are_the_refusals.Goals as goal

pub returns : goal.returns
returns c = all_refusals
