use Rattle.ts_pattern.proofs.PatternTextLemmas.{found, read}
use Rattle.ts_pattern.proofs.text.pattern_texts_are_tokens.Goals as goal

pub returns : goal.returns
returns c = λ text p. (found text p, read text p)
