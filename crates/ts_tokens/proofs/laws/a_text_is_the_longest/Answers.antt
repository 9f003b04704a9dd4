use Rattle.std.proofs.Common.{subst}
use Rattle.ts_tokens.proofs.TextFormLemmas.{IsLast, closing_is_last}
use Rattle.ts_tokens.proofs.laws.a_text_is_the_longest.Goals as goal

pub returns-clause-ends : goal.returns-clause-ends
returns-clause-ends c = λ bytes end is. (subst (IsLast bytes) is (closing_is_last bytes)).0

pub returns-clause-longest : goal.returns-clause-longest
returns-clause-longest c = λ bytes end is. (subst (IsLast bytes) is (closing_is_last bytes)).1

pub returns-clause-none : goal.returns-clause-none
returns-clause-none c = λ bytes is. subst (IsLast bytes) is (closing_is_last bytes)
