use Rattle.ts_calendar.proofs.TextLemmas.{found, read}
use Rattle.ts_calendar.proofs.text.calendar_texts_are_tokens.Goals as goal

pub returns : goal.returns
returns c = λ text x. (found text x, read text x)
