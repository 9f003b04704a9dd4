use Rattle.ts_chain.proofs.WindowLemmas.{at_page, with_page, without_page}
use Rattle.ts_chain.proofs.laws.an_edit_is_that_of_one_page.Goals as goal

pub returns-clause-found : goal.returns-clause-found
returns-clause-found c = at_page

pub returns-clause-put : goal.returns-clause-put
returns-clause-put c = with_page

pub returns-clause-taken : goal.returns-clause-taken
returns-clause-taken c = without_page
