use Rattle.std.proofs.Common.{[], ◌∷◌}
use Rattle.ts_text.proofs.CallerLemmas.{Any, is_its_tokens}
use Rattle.ts_tokens.specs.Tokens.{front}
use Rattle.ts_command.specs.Grammar.{a_call, a_command}
use Rattle.ts_tokens.proofs.CallerLemmas.{front_laws, front_ending}
use Rattle.ts_command.proofs.CommandLemmas.{call_yields}
use Rattle.ts_command.proofs.laws.a_statement_is_its_tokens.Goals as goal

pub returns : goal.returns
unfolding a_command
returns c = is_its_tokens front front_laws Any (59 ∷ []) front_ending a_call call_yields
