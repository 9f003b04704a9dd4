use Rattle.ts_expr.proofs.LeastLemmas.{first, last, none}
use Rattle.ts_expr.proofs.laws.the_first_value_is_at_the_front.Goals as goal

pub returns-clause-first : goal.returns-clause-first
returns-clause-first c = first

pub returns-clause-last : goal.returns-clause-last
returns-clause-last c = last

pub returns-clause-none : goal.returns-clause-none
returns-clause-none c = none
