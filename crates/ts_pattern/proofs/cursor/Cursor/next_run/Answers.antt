use Rattle.ts_pattern.proofs.CursorLemmas.{place-run, flag-run, count-positive, pattern-merged}
use Rattle.ts_pattern.proofs.cursor.Cursor.next_run.Goals as goal

pub invariant_of-self : goal.invariant_of-self
invariant_of-self c =
    let s = c.args.self.now in
    let runs = s.runs.now in
    let next = c.next_index-index.ensures in
    let here = c.run_at-run.ensures in
    record {
      pattern = s.pattern;
      within = next.within;
      some = count-positive runs _ _ (pattern-merged runs s.pattern).0 here;
      place = place-run runs _ _ _ here next.place;
      flags = flag-run runs _ _ _ s.pattern here next.place;
    }
