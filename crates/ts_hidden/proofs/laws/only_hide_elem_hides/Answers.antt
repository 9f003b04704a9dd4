use Rattle.ts_hidden.proofs.LawLemmas.{only_hide_elem_hides as law}
use Rattle.ts_hidden.proofs.laws.only_hide_elem_hides.Goals as goal

pub returns : goal.returns
returns c = law
