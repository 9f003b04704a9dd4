use Rattle.ts_sessions.proofs.OtherLemmas.{left_by_others}
use Rattle.ts_sessions.proofs.laws.others_leave_a_snapshot.Goals as goal

pub returns : goal.returns
returns c = left_by_others
