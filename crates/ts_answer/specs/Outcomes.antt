-- How the last line of a reply tells whether its command was refused.
use Rattle.std.specs.Prelude.{◌≡◌, ℕ, ◌==◌, ◌&&◌, Bool, true, false, not, if◌then◌else◌, List, [], ◌∷◌, length, codes}
use Rattle.std.specs.Prelude.{Ok, Err, nat_eq}
use Rattle.std.specs.List.{count_by, starts_with}
use Rattle.ts_command.specs.declared.command.Command.{Command}
use Rattle.ts_answer.specs.Answer.{State, run_outcome, run_answer, replies}

-- the last line of a text, where this line was reached: behind a line feed the next begins, if anything stands there
abbrev pub last_line_from : List ℕ → List ℕ → List ℕ
last_line_from line [] = line
last_line_from line (b ∷ rest) = last_line_from (if (b == 10) && not (length rest == 0) then rest else line) rest

abbrev pub last_line : List ℕ → List ℕ
last_line text = last_line_from text text

-- the last line of a reply begins with `ok`
unfoldable pub ends_with_ok : List ℕ → Bool
ends_with_ok reply = starts_with nat_eq (last_line reply) (codes "ok")

-- a command comes to an answer, and not to a refusal
abbrev pub is_answered : State → Command → Bool
is_answered state command = elim (run_outcome (Ok command) state) [ Ok answered ↦ true | Err refusal ↦ false ]

-- a reply ends with an `ok` line exactly where its command isn't refused
abbrev pub OkLinesAreAnswers : Type 0
OkLinesAreAnswers = (state : State) (command : Command) → ends_with_ok (run_answer state (Ok command)).0
    ≡ is_answered state command

-- which of commands, carried out one behind the other, come to an answer
abbrev pub are_answered : State → List Command → List Bool
are_answered state [] = []
are_answered state (command ∷ commands) = is_answered state command
    ∷ are_answered (run_answer state (Ok command)).1 commands

-- so many replies end with an `ok` line as commands are answered, and so many don't as are refused
pub record CountsAreOfOutcomes : Type 0 where
  pub answered : (state : State) (commands : List Command)
      → count_by ends_with_ok (replies state commands) ≡ count_by (λ yes. yes) (are_answered state commands)
  pub refused : (state : State) (commands : List Command)
      → count_by (λ r. not (ends_with_ok r)) (replies state commands) ≡ count_by not (are_answered state commands)
