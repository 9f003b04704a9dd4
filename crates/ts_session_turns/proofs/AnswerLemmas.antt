-- What the answer of a catalogue tells: whether the command was refused, and what a reading leaves.
use Rattle.std.proofs.Common.{◌≡◌, ℕ, true, false, None, Ok, Err, List, ap, sym, ◌∙◌}
use Rattle.ts_base.specs.declared.refusal.Refusal.{Refusal}
use Rattle.ts_command.specs.declared.command.Command.{Command}
use Rattle.ts_command.specs.Boundary.{boundary_of, is_writing}
use Rattle.ts_model.specs.Catalogue.{Catalogue}
use Rattle.ts_answer.specs.Answer.{Answered, Tried, answer, outcome, settled, State, resting}
use Rattle.ts_answer.specs.Outcomes.{ends_with_ok, is_answered}
use Rattle.ts_answer.specs.Reply.{refusal_line}
use Rattle.ts_answer.proofs.CallerLemmas.{ok_lines_are_answers, outside_came, outside_refused, plain_answer}
use Rattle.ts_answer_laws.proofs.ReadingLemmas.{leaves}

-- a reply of a catalogue ends with an `ok` line exactly where the command isn't refused
ends_as : (cat : Catalogue) (command : Command) → boundary_of command ≡ None → ends_with_ok (answer cat (Ok command)).0 ≡ is_answered (resting cat) command
ends_as cat command plain = ap ends_with_ok (ap (λ (a : List ℕ × State). a.0) (sym (plain_answer cat command plain))) ∙ ok_lines_are_answers (resting cat) command

pub ends_yes : (cat : Catalogue) (command : Command) (out : List ℕ) (a : Answered) → boundary_of command ≡ None → out ≡ (answer cat (Ok command)).0 → outcome (Ok command) cat ≡ Ok a → ends_with_ok out ≡ true
ends_yes cat command out a plain said came =
    ap ends_with_ok said ∙ ends_as cat command plain
    ∙ ap (λ (t : Tried (List ℕ × State)). elim t [ Ok answered ↦ true | Err refusal ↦ false ]) (outside_came command cat a.0 a.1 plain came)

pub ends_no : (cat : Catalogue) (command : Command) (out : List ℕ) (refusal : Refusal) → boundary_of command ≡ None → out ≡ (answer cat (Ok command)).0 → outcome (Ok command) cat ≡ Err refusal → ends_with_ok out ≡ false
ends_no cat command out refusal plain said refused =
    ap ends_with_ok said ∙ ends_as cat command plain
    ∙ ap (λ (t : Tried (List ℕ × State)). elim t [ Ok answered ↦ true | Err refusal ↦ false ]) (outside_refused command cat refusal refused)

-- a reading leaves the catalogue
pub reads_only : (cat : Catalogue) (command : Command) → is_writing command ≡ false → (answer cat (Ok command)).1 ≡ cat
reads_only cat command reads = leaves cat command reads

-- what is refused is answered by the line of the refusal, and leaves it, too
pub refused_answer : (cat : Catalogue) (command : Command) (refusal : Refusal) → outcome (Ok command) cat ≡ Err refusal → answer cat (Ok command) ≡ (refusal_line refusal, cat)
unfolding answer
refused_answer cat command refusal is = ap (settled cat) is
