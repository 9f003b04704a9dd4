use Rattle.ts_expr.proofs.TextLemmas.{found, read}
use Rattle.ts_expr.proofs.list.aggregate_texts_are_tokens.Goals as goal

pub returns : goal.returns
returns c = λ text items. (found text items, read text items)
