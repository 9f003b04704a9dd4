use Rattle.ts_sessions.proofs.ConflictLemmas.{conflicts}
use Rattle.ts_sessions.proofs.laws.a_conflict_names_the_first.Goals as goal

pub returns : goal.returns
returns c = conflicts
