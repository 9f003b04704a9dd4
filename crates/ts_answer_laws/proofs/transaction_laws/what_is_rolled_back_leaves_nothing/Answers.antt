use Rattle.ts_answer_laws.proofs.TransactionLemmas.{what_is_rolled_back}
use Rattle.ts_answer_laws.proofs.transaction_laws.what_is_rolled_back_leaves_nothing.Goals as goal

pub returns : goal.returns
returns c = what_is_rolled_back
