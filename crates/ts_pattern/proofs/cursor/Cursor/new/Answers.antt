use Rattle.ts_pattern.proofs.CursorLemmas.{place-first, flag-around}
use Rattle.ts_pattern.proofs.cursor.Cursor.new.Goals as goal

pub invariant_of-result : goal.invariant_of-result
invariant_of-result c =
    let runs = c.args.runs.now in
    let around = c.run_around-index.ensures in
    let here = c.run_at-run.ensures in
    record {
      pattern = c.requires.pattern;
      within = around.within;
      some = around.some;
      place = place-first runs c.args.at _ _ c.requires.within around.end;
      flags = flag-around runs c.args.at _ _ _ here around.end (around.inside _ here);
    }
