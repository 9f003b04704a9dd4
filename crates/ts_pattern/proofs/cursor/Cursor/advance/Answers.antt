use Rattle.std.proofs.Common.{◌≡◌, ◌+◌, ◌<◌, ◌≤◌, length, arith}
use Rattle.ts_pattern.proofs.CursorLemmas.{place-within}
use Rattle.ts_pattern.proofs.cursor.Cursor.advance.Goals as goal

pub invariant_of-self : goal.invariant_of-self
invariant_of-self c =
    let s = c.args.self.now in
    let more : 1 < length s.runs.now = omega (arith, s.within) in
    let fits : c.args.step ≤ s.rest = c.requires.fits more in
    let less : c.args.step < s.rest = omega (arith, fits) in
    record {
      pattern = s.pattern;
      within = s.within;
      some = omega (arith, less);
      place = place-within s.runs.now s.at s.rest c.args.step s.index s.pattern less s.place;
      flags = λ i h. let e : s.at + c.args.step + i ≡ s.at + (c.args.step + i) = omega arith in rw e (s.flags (c.args.step + i) (omega (arith, less)));
    }
