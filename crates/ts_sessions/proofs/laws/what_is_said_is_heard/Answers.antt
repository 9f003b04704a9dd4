use Rattle.ts_sessions.proofs.ApartLemmas.{heard_all}
use Rattle.ts_sessions.proofs.laws.what_is_said_is_heard.Goals as goal

pub returns : goal.returns
returns c = heard_all
