use Rattle.ts_catalogue_laws.proofs.UnionLemmas.{joins_list}
use Rattle.ts_catalogue_laws.proofs.join_laws.a_join_lists_the_values_of_both.Goals as goal

pub returns : goal.returns
returns c = joins_list
