use Rattle.ts_dump_texts.proofs.ItemLemmas.{scripts_ask}
use Rattle.ts_dump_texts.proofs.laws.scripts_ask_for_their_lines.Goals as goal

pub returns : goal.returns
returns c = scripts_ask
