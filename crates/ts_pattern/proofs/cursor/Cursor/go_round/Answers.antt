use Rattle.std.proofs.Common.{◌+◌, arith}
use Rattle.ts_pattern.proofs.CursorLemmas.{single-place, single-flag}
use Rattle.ts_pattern.proofs.cursor.Cursor.go_round.Goals as goal

pub invariant_of-self : goal.invariant_of-self
invariant_of-self c =
    let s = c.args.self.now in
    let runs = s.runs.now in
    let here = c.run_at-run.ensures in
    let place = single-place runs (s.at + c.args.step) _ c.requires.single here s.pattern in
    record {
      pattern = s.pattern;
      within = omega (arith, c.requires.single);
      some = omega (arith, place.0);
      place = place.1;
      flags = λ i h. single-flag runs _ _ c.requires.single here s.pattern;
    }
