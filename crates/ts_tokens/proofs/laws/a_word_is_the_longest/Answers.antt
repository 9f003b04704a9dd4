use Rattle.ts_tokens.proofs.WordLemmas.{word_token}
use Rattle.ts_tokens.proofs.laws.a_word_is_the_longest.Goals as goal

pub returns-clause-is : goal.returns-clause-is
returns-clause-is c = λ bytes size is. (word_token bytes size is).0

pub returns-clause-longest : goal.returns-clause-longest
returns-clause-longest c = λ bytes size is. (word_token bytes size is).1
