use Rattle.ts_answer_laws.proofs.TransactionLemmas.{never_overfull}
use Rattle.ts_answer_laws.proofs.transaction_laws.a_transaction_is_never_overfull.Goals as goal

pub returns : goal.returns
returns c = never_overfull
