use Rattle.ts_dump_laws.proofs.SaidLemmas.{scripts_make}
use Rattle.ts_dump_laws.proofs.laws.scripts_make_their_catalogue.Goals as goal

pub returns : goal.returns
returns c =
    scripts_make c.texts_are_read_as_their_statements.ensures.statements c.texts_are_read_as_their_statements.ensures.rows c.texts_are_lines.ensures c.scripts_ask_for_their_lines.ensures
    c.statements_make_their_catalogue.ensures c.transactions_make_the_catalogue.ensures
