use Rattle.ts_answer_laws.proofs.ReadingLemmas.{refused}
use Rattle.ts_answer_laws.proofs.laws.a_refused_request_changes_nothing.Goals as goal

pub returns : goal.returns
returns c = refused
