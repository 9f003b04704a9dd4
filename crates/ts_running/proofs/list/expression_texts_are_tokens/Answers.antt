use Rattle.ts_running.proofs.TextLemmas.{found, read}
use Rattle.ts_running.proofs.list.expression_texts_are_tokens.Goals as goal

pub returns : goal.returns
returns c = λ text exprs. (found text exprs, read text exprs)
