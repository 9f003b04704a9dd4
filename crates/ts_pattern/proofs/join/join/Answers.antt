use Rattle.std.proofs.Common.{◌≡◌, ◌+◌, ◌∙◌, sym, ap, arith, length, refl}
use Rattle.ts_pattern.specs.Patterns.{total, runs_of}
use Rattle.ts_pattern.specs.Growth.{extended}
use Rattle.ts_pattern.specs.Line.{side_by_side}
use Rattle.ts_pattern.proofs.JoinLemmas.{total-runs_from}
use Rattle.ts_pattern.proofs.GrowLemmas.{join_step, runs_of-zero, too_many}
use Rattle.ts_pattern.proofs.join.join.Goals as goal

pub loop-at-init : goal.loop-at-init
loop-at-init c = record {
  runs = c.new-runs.ensures.items ∙ sym (runs_of-zero _ 0 refl);
  within = omega arith;
  left_at = omega (arith, c.new-a.ensures.at);
  right_at = omega (arith, c.new-b.ensures.at);
  left = c.new-a.ensures.runs;
  right = c.new-b.ensures.runs;
  few = omega (arith, ap length c.new-runs.ensures.items);
}

pub extend-requires : goal.extend-requires
extend-requires c =
    let f = side_by_side c.args.junction c.args.left.runs.now c.args.left.from c.args.right.runs.now c.args.right.from in
    omega (arith, ap total c.loop-at.invariant.runs, total-runs_from f 0 c.loop-at.at)

pub returns-then-len-gt-MOST_RUNS-clause-fits : goal.returns-then-len-gt-MOST_RUNS-clause-fits
returns-then-len-gt-MOST_RUNS-clause-fits c =
    let f = side_by_side c.args.junction c.args.left.runs.now c.args.left.from c.args.right.runs.now c.args.right.from in
    let a = c.loop-at.a in
    let b = c.loop-at.b in
    let inv = c.loop-at.invariant in
    let step = c.min-step.result in
    let grown = join_step c.args.junction c.args.left.runs.now c.args.right.runs.now c.args.left.from c.args.right.from c.loop-at.at
    c.steady.result c.steady-in-loop-at.result step a.on b.on
    (omega (arith, c.steady.ensures.some, c.steady-in-loop-at.ensures.some)) (omega arith) (omega arith)
    (λ i h. rw (inv.left, inv.left_at) at (c.steady.ensures.flags i h))
    (λ i h. rw (inv.right, inv.right_at) at (c.steady-in-loop-at.ensures.flags i h)) in
    let items : c.extend.new.runs.items ≡ runs_of f (c.loop-at.at + step) =
    c.in_ok-extend.ensures.ok ∙ ap (λ rs. extended rs c.joined.result step) inv.runs
    ∙ ap (λ on. extended (runs_of f c.loop-at.at) on step) c.joined.ensures ∙ sym grown in
    let many = too_many f (c.loop-at.at + step) c.args.length (omega arith) (omega (arith, ap length items)) in
    (λ none. absurd (cc), λ few. absurd (omega arith))

pub loop-at-preserved : goal.loop-at-preserved
loop-at-preserved c =
    let f = side_by_side c.args.junction c.args.left.runs.now c.args.left.from c.args.right.runs.now c.args.right.from in
    let a = c.loop-at.a in
    let b = c.loop-at.b in
    let inv = c.loop-at.invariant in
    let step = c.min-step.result in
    let grown = join_step c.args.junction c.args.left.runs.now c.args.right.runs.now c.args.left.from c.args.right.from c.loop-at.at
    c.steady.result c.steady-in-loop-at.result step a.on b.on
    (omega (arith, c.steady.ensures.some, c.steady-in-loop-at.ensures.some)) (omega arith) (omega arith)
    (λ i h. rw (inv.left, inv.left_at) at (c.steady.ensures.flags i h))
    (λ i h. rw (inv.right, inv.right_at) at (c.steady-in-loop-at.ensures.flags i h)) in
    record {
      runs = c.in_ok-extend.ensures.ok ∙ ap (λ rs. extended rs c.joined.result step) inv.runs
          ∙ ap (λ on. extended (runs_of f c.loop-at.at) on step) c.joined.ensures ∙ sym grown;
      within = omega arith;
      left_at = omega (arith, c.advance.ensures.at);
      right_at = omega (arith, c.advance-in-loop-at.ensures.at);
      left = c.advance.ensures.runs ∙ inv.left;
      right = c.advance-in-loop-at.ensures.runs ∙ inv.right;
      few = omega arith;
    }
