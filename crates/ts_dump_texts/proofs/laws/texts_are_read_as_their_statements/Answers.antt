use Rattle.ts_dump_texts.proofs.StatementLemmas.{texts_read, literals_give}
use Rattle.ts_dump_texts.proofs.laws.texts_are_read_as_their_statements.Goals as goal

pub returns-clause-statements : goal.returns-clause-statements
returns-clause-statements c = texts_read c.printed_values_are_read_again.ensures.row

pub returns-clause-rows : goal.returns-clause-rows
returns-clause-rows c = literals_give c.printed_values_are_read_again.ensures.row
