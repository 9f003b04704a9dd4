use Rattle.std.proofs.Common.{◌+◌, ◌∙◌}
use Rattle.ts_pattern.proofs.CursorLemmas.{single-same}
use Rattle.ts_pattern.proofs.cursor.Cursor.steady.Goals as goal

pub returns-then-self-eq1-clause-flags : goal.returns-then-self-eq1-clause-flags
returns-then-self-eq1-clause-flags c =
    let s = c.args.self.now in
    λ i h. single-same s.runs.now (s.at + i) (s.at + 0) c.if-self-eq1.true s.pattern ∙ s.flags 0 s.some
