use Rattle.ts_answer_laws.proofs.TransactionLemmas.{what_is_committed}
use Rattle.ts_answer_laws.proofs.transaction_laws.what_is_committed_is_what_the_commands_make.Goals as goal

pub returns : goal.returns
returns c = what_is_committed
