use Rattle.ts_cache.proofs.CacheLaws.{forward_found, own_out, not_out}
use Rattle.ts_cache.proofs.laws.a_page_is_found_until_it_is_forgotten.Goals as goal

pub returns-clause-got : goal.returns-clause-got
returns-clause-got c = forward_found

pub returns-clause-forgotten : goal.returns-clause-forgotten
returns-clause-forgotten c = own_out

pub returns-clause-others : goal.returns-clause-others
returns-clause-others c = λ n m ps apart. not_out m n ps apart
