use Rattle.ts_dump_laws.proofs.SaidLemmas.{scripts_of_volumes}
use Rattle.ts_dump_laws.proofs.laws.scripts_make_what_a_volume_means.Goals as goal

pub returns : goal.returns
returns c = scripts_of_volumes c.a_volume_means_a_catalogue.ensures c.scripts_make_their_catalogue.ensures
