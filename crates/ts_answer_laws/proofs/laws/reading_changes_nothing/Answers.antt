use Rattle.ts_answer_laws.proofs.ReadingLemmas.{leaves}
use Rattle.ts_answer_laws.proofs.laws.reading_changes_nothing.Goals as goal

pub returns : goal.returns
returns c = leaves
