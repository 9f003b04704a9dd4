use Rattle.ts_chain.proofs.WindowLemmas.{with_window, without_window}
use Rattle.ts_chain.proofs.laws.an_edit_of_pages_side_by_side_makes_a_chain.Goals as goal

pub returns-clause-put : goal.returns-clause-put
returns-clause-put c = λ columns stamp row front old new back is around element sized own dense. with_window columns stamp front old new back is around sized dense row element own

pub returns-clause-taken : goal.returns-clause-taken
returns-clause-taken c = λ columns stamp front old new back is around sized own dense. without_window columns stamp front old new back is around sized dense own
