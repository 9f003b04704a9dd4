use Rattle.ts_dump_laws.proofs.LawLemmas.{volumes_made}
use Rattle.ts_dump_laws.proofs.laws.statements_make_what_a_volume_means.Goals as goal

pub returns : goal.returns
returns c =
    volumes_made c.a_volume_means_a_catalogue.ensures c.statements_make_their_catalogue.ensures c.transactions_make_the_catalogue.ensures
