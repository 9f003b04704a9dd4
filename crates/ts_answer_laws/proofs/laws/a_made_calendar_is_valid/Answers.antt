use Rattle.ts_answer_laws.proofs.CalendarLemmas.{created_valid, both_valid, either_valid}
use Rattle.ts_answer_laws.proofs.laws.a_made_calendar_is_valid.Goals as goal

pub returns : goal.returns
returns c = record { created = created_valid; both = both_valid; either = either_valid }
