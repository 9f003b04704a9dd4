use Rattle.ts_dump_laws.proofs.SaidLemmas.{scripts_of_series}
use Rattle.ts_dump_laws.proofs.laws.scripts_make_series_of_volumes.Goals as goal

pub returns : goal.returns
returns c = scripts_of_series c.a_volume_means_a_catalogue.ensures c.scripts_make_their_catalogue.ensures c.a_series_stands_alone.ensures
