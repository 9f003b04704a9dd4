use Rattle.ts_sessions.proofs.LogLemmas.{follows}
use Rattle.ts_sessions.proofs.laws.a_log_follows_its_machine.Goals as goal

pub returns : goal.returns
returns c = follows
