use Rattle.ts_journal.proofs.StandLemmas.{journal_stands, journal_is_read, journal_malformed, journal_is_none}
use Rattle.ts_journal.proofs.laws.records_are_read_where_they_stand.Goals as goal

pub returns-clause-read : goal.returns-clause-read
returns-clause-read c = λ image rs volume small is. journal_stands image volume rs small is

pub returns-clause-stand : goal.returns-clause-stand
returns-clause-stand c = λ image rs volume stand. journal_is_read image volume rs stand

pub returns-clause-malformed : goal.returns-clause-malformed
returns-clause-malformed c = λ image volume small is. journal_malformed image volume small is

pub returns-clause-none : goal.returns-clause-none
returns-clause-none c = λ image volume small malformed. journal_is_none image volume small malformed
