use Rattle.ts_catalogue_laws.proofs.EditedLemmas.{elements_marked}
use Rattle.ts_catalogue_laws.proofs.edit_laws.an_addressed_element_is_marked.Goals as goal

pub returns : goal.returns
returns c = elements_marked c.what_is_not_written_stays.ensures
