use Rattle.ts_dump_laws.proofs.LawLemmas.{catalogues_made}
use Rattle.ts_dump_laws.proofs.laws.statements_make_their_catalogue.Goals as goal

pub returns : goal.returns
returns c = catalogues_made c.printed_patterns_are_read.ensures c.printed_calendars_are_read.ensures
