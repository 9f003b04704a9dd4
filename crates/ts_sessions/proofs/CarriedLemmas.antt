-- Commands one behind the other, and commits.
use Rattle.std.proofs.Common.{◌≡◌, Ok, Err, List, [], ◌∷◌, ◌++◌, refl, ap, sym, ◌∙◌}
use Rattle.ts_command.specs.declared.command.Command.{Command}
use Rattle.ts_model.specs.Catalogue.{Catalogue}
use Rattle.ts_answer.specs.Answer.{Tried, Answered, ◌>>=◌, settled, outcome, answer}
use Rattle.ts_sessions.specs.Machine.{Commit, behind_commits, carried, replayed}

-- an accepted command is answered so
pub accepted_answer : (cat : Catalogue) (command : Command) (a : Answered) → outcome (Ok command) cat ≡ Ok a → answer cat (Ok command) ≡ a
unfolding answer
accepted_answer cat command a is = ap (settled cat) is

-- one command more
pub carried_more : (cat : Catalogue) (commands : List Command) (command : Command) → carried cat (commands ++ command ∷ []) ≡ (answer (carried cat commands) (Ok command)).1
carried_more cat [] command = refl
carried_more cat (first ∷ commands) command = carried_more (answer cat (Ok first)).1 commands command

-- all accepted, and one more
more_behind : (cat : Catalogue) (first : Command) (commands : List Command) (command : Command) (next last : Catalogue) (came : Tried Answered) → outcome (Ok first) cat ≡ came
    → ((b : Answered) → replayed b.1 commands ≡ Ok next → replayed b.1 (commands ++ command ∷ []) ≡ Ok last)
    → replayed cat (first ∷ commands) ≡ Ok next → replayed cat (first ∷ (commands ++ command ∷ [])) ≡ Ok last
unfolding ◌>>=◌
more_behind cat first commands command next last (Ok b) is others all =
    (λ i. is i >>= λ x. replayed x.1 (commands ++ command ∷ [])) ∙ others b (sym (λ i. is i >>= λ x. replayed x.1 commands) ∙ all)
more_behind cat first commands command next last (Err refusal) is others all =
    let refused : Err refusal ≡ Ok next = sym (λ i. is i >>= λ x. replayed x.1 commands) ∙ all in
    absurd (cc)

pub replayed_more : (cat : Catalogue) (commands : List Command) (command : Command) (next : Catalogue) (a : Answered) → replayed cat commands ≡ Ok next → outcome (Ok command) next ≡ Ok a
    → replayed cat (commands ++ command ∷ []) ≡ Ok a.1
unfolding ◌>>=◌
replayed_more cat [] command next a all more =
    let same : cat ≡ next = cc in
    (λ i. outcome (Ok command) (same i) >>= λ b. Ok b.1) ∙ (λ i. more i >>= λ b. Ok b.1)
replayed_more cat (first ∷ commands) command next a all more =
    more_behind cat first commands command next a.1 (outcome (Ok first) cat) refl (λ b accepted. replayed_more b.1 commands command next a accepted more) all

-- an accepted command alone
pub replayed_one : (cat : Catalogue) (command : Command) (a : Answered) → outcome (Ok command) cat ≡ Ok a → replayed cat (command ∷ []) ≡ Ok a.1
unfolding ◌>>=◌
replayed_one cat command a is = λ i. is i >>= λ x. Ok x.1

-- one commit more
pub behind_commits_more : (cat : Catalogue) (commits : List Commit) (commit : Commit) → behind_commits cat (commits ++ commit ∷ []) ≡ commit.catalogue
behind_commits_more cat [] commit = refl
behind_commits_more cat (first ∷ commits) commit = behind_commits_more first.catalogue commits commit
