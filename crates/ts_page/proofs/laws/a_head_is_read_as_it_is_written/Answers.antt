use Rattle.ts_page.proofs.HeadLemmas.{head_read, head_written}
use Rattle.ts_page.proofs.laws.a_head_is_read_as_it_is_written.Goals as goal

pub returns-clause-read : goal.returns-clause-read
returns-clause-read c = head_read

pub returns-clause-written : goal.returns-clause-written
returns-clause-written c = head_written
