use Rattle.std.proofs.Common.{ℕ, List, sym, ◌∙◌, ap}
use Rattle.ts_command.specs.Grammar.{command_of}
use Rattle.ts_syntax.specs.Reading.{refused_at}
use Rattle.ts_syntax.proofs.TellLemmas.{cause_place}
use Rattle.ts_syntax.proofs.checker.Checker.refused_at.Goals as goal
use Rattle.ts_syntax.proofs.checker.Checker.refused_at.Goals.{in-Ok, in-Err-Refused, in-Err-Memory}

pub returns : goal.returns
returns c =
    let text : List ℕ = c.args.self.now.text in
    elim c.match-read_command.branch [
      | in-Ok w ↦ rw w.result-is (sym (ap refused_at (ap command_of (sym c.as_slice.ensures) ∙ w.in-Ok.ensures.ok)))
      | in-Err-Refused w ↦ rw w.result-is (w.syntax_place.ensures ∙ cause_place _ _ _ w.in-Err-Refused.field-0-is w.in-Err-Refused.ensures.cause ∙ ap (λ (l : List ℕ). refused_at (command_of l)) c.as_slice.ensures)
      | in-Err-Memory w ↦ rw w.result-is tt
    ]
