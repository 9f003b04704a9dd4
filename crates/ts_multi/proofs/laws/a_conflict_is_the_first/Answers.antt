use Rattle.ts_multi.proofs.ConflictLemmas.{first_conflict, no_conflict}
use Rattle.ts_multi.proofs.laws.a_conflict_is_the_first.Goals as goal

pub returns-clause-some : goal.returns-clause-some
returns-clause-some c = λ begun noted commits number e. first_conflict begun noted commits number e

pub returns-clause-none : goal.returns-clause-none
returns-clause-none c = λ begun noted commits e number after within. no_conflict begun noted commits e number after within
