use Rattle.ts_journal.proofs.StandLemmas.{record_stands, record_is_read}
use Rattle.ts_journal.proofs.laws.a_record_is_read_where_it_stands.Goals as goal

pub returns-clause-read : goal.returns-clause-read
returns-clause-read c = record_stands

pub returns-clause-stands : goal.returns-clause-stands
returns-clause-stands c = record_is_read
