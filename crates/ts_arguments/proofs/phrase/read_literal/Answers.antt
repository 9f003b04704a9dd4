use Rattle.std.proofs.Common.{sym, ◌∙◌}
use Rattle.ts_tokens.proofs.CallerLemmas.{number_token}
use Rattle.ts_arguments.proofs.phrase.read_literal.Goals as goal

pub number_of-requires-clause-digits : goal.number_of-requires-clause-digits
number_of-requires-clause-digits c =
    (number_token c.skip_blanks-here.result.now c.split_at.result.0.now c.in-Some.kind c.in-Some.length (sym c.front.ensures.value ∙ c.in-Some.is) c.in-Number.is c.split_at.ensures.front).0

pub number_of-requires-clause-short : goal.number_of-requires-clause-short
number_of-requires-clause-short c =
    (number_token c.skip_blanks-here.result.now c.split_at.result.0.now c.in-Some.kind c.in-Some.length (sym c.front.ensures.value ∙ c.in-Some.is) c.in-Number.is c.split_at.ensures.front).1
