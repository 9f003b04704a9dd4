use Rattle.ts_answer_laws.proofs.TransactionLemmas.{only_commits_move}
use Rattle.ts_answer_laws.proofs.transaction_laws.only_commits_move_the_base.Goals as goal

pub returns : goal.returns
returns c = only_commits_move
