use Rattle.std.proofs.Common.{sym, ◌∙◌}
use Rattle.ts_tokens.proofs.CallerLemmas.{number_token}
use Rattle.ts_arguments.proofs.phrase.read_whole.Goals as goal

pub whole-requires : goal.whole-requires
whole-requires c =
    record { digits = (number_token c.skip_blanks-here.result.now c.split_at.result.0.now c.in-Some-Number-default.field-0-0 c.in-Some-Number-default.length (sym c.front.ensures.value ∙ c.in-Some-Number-default.is) c.in-Some-Number-default.field-0-0-is c.split_at.ensures.front).0 }
