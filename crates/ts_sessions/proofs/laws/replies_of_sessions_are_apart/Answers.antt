use Rattle.ts_sessions.proofs.ApartLemmas.{told_apart}
use Rattle.ts_sessions.proofs.laws.replies_of_sessions_are_apart.Goals as goal

pub returns : goal.returns
returns c = told_apart (λ image cat. Unit {0})
