use Rattle.ts_session_laws.proofs.AloneLemmas.{one_session}
use Rattle.ts_session_laws.proofs.laws.one_session_is_a_run.Goals as goal

pub returns : goal.returns
returns c = one_session
