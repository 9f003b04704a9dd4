use Rattle.ts_sessions.proofs.SerialLemmas.{one_list}
use Rattle.ts_sessions.proofs.laws.commits_are_one_list.Goals as goal

pub returns : goal.returns
returns c = one_list
