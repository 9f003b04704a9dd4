use Rattle.ts_catalogue_laws.proofs.EditedLemmas.{rows_put}
use Rattle.ts_catalogue_laws.proofs.edit_laws.a_row_is_put_in_its_place.Goals as goal

pub returns : goal.returns
returns c = rows_put c.what_is_not_written_stays.ensures
