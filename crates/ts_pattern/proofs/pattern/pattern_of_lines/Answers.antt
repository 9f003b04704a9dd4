use Rattle.std.proofs.Common.{◌≡◌, ◌∙◌, ◌≤◌, sym, ap, length, refl}
use Rattle.ts_pattern.specs.Patterns.{total, is_pattern, runs_of}
use Rattle.ts_pattern.specs.Line.{side_by_side}
use Rattle.ts_pattern.proofs.JoinLemmas.{total-runs_from}
use Rattle.ts_pattern.proofs.GrowLemmas.{is_pattern-runs_of}
use Rattle.ts_pattern.proofs.pattern.pattern_of_lines.Goals as goal

pub invariant_of-result : goal.invariant_of-result
invariant_of-result c =
    let f = side_by_side c.args.junction c.args.left.runs.now c.args.left.from c.args.right.runs.now c.args.right.from in
    let n = c.args.length in
    let items : c.in-Some.runs.items ≡ runs_of f n = rw c.in-Some.is at c.in_ok-runs.ensures.value in
    let fits = rw c.in-Some.is at c.in_ok-runs.ensures.fits in
    let few : length (runs_of f n) ≤ 512 = fits.0 refl in (
      sym (total-runs_from f 0 n) ∙ ap total (sym items),
      ap is_pattern items ∙ is_pattern-runs_of f n c.requires.some c.requires.small few,
    )
