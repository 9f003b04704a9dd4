use Rattle.ts_dump_laws.proofs.LawLemmas.{catalogues_made_in_transactions}
use Rattle.ts_dump_laws.proofs.laws.transactions_make_the_catalogue.Goals as goal

pub returns : goal.returns
returns c = catalogues_made_in_transactions c.printed_patterns_are_read.ensures c.printed_calendars_are_read.ensures
