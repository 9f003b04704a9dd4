use Rattle.std.proofs.Common.{[]}
use Rattle.ts_text.specs.Phrase.{plain_front}
use Rattle.ts_text.proofs.CallerLemmas.{Any, is_its_tokens, plain_laws, plain_ending}
use Rattle.ts_pattern.specs.Patterns.{pattern_in}
use Rattle.ts_pattern.proofs.GrammarLemmas.{pattern_yields}
use Rattle.ts_pattern.proofs.text.a_pattern_is_its_tokens.Goals as goal

pub returns : goal.returns
returns c = is_its_tokens plain_front plain_laws Any [] plain_ending pattern_in pattern_yields
