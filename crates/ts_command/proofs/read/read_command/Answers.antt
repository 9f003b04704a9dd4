use Rattle.std.proofs.Common.{◌≡◌, ◌≤◌, ℕ, List, [], ◌∷◌, length, Err}
use Rattle.ts_text.proofs.CallerLemmas.{Any, left-le}
use Rattle.ts_tokens.specs.Tokens.{front}
use Rattle.ts_command.specs.Grammar.{a_call, a_command}
use Rattle.ts_tokens.proofs.CallerLemmas.{front_laws, front_ending}
use Rattle.ts_command.proofs.CommandLemmas.{call_yields, command-form}
use Rattle.ts_command.proofs.read.read_command.Goals as goal

left_over : (text : List ℕ) (left : ℕ) → a_command text ≡ Err left → left ≤ length text
unfolding a_command
left_over text left is = left-le front front_laws Any (59 ∷ []) front_ending a_call call_yields text left is

pub overflow_sub-result : goal.overflow_sub-result
overflow_sub-result c = left_over c.args.text.now c.in-Err-At.left (rw c.in-Err-At.field-0-is at c.in-Err-At.ensures.cause)

pub returns-in-Ok-clause-form : goal.returns-in-Ok-clause-form
returns-in-Ok-clause-form c = command-form c.args.text.now (c.in-Ok.command, []) c.requires c.in-Ok.ensures.ok
