use Rattle.ts_irregular.proofs.EditLemmas.{with_in_order, without_in_order, length-with, length-without}
use Rattle.ts_irregular.proofs.laws.edits_keep_the_order.Goals as goal

pub returns-clause-put : goal.returns-clause-put
returns-clause-put c = with_in_order

pub returns-clause-taken : goal.returns-clause-taken
returns-clause-taken c = without_in_order

pub returns-clause-more : goal.returns-clause-more
returns-clause-more c = length-with

pub returns-clause-fewer : goal.returns-clause-fewer
returns-clause-fewer c = length-without
