use Rattle.ts_sessions.proofs.SerialLemmas.{only_commits}
use Rattle.ts_sessions.proofs.laws.only_commits_append.Goals as goal

pub returns : goal.returns
returns c = only_commits
