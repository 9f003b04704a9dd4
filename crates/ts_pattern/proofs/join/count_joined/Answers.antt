use Rattle.std.proofs.Common.{◌≡◌, ◌≤◌, ◌+◌, ◌∙◌, sym, ap, arith, length, refl}
use Rattle.ts_pattern.specs.Patterns.{runs_of}
use Rattle.ts_pattern.specs.Growth.{extended}
use Rattle.ts_pattern.specs.Line.{side_by_side}
use Rattle.ts_pattern.proofs.GrowLemmas.{join_step, runs_of-zero, last_flag, length-extended_other, length-extended_same, last_flag-extended}
use Rattle.ts_pattern.proofs.join.count_joined.Goals as goal
use Rattle.ts_pattern.proofs.join.count_joined.Goals.{then-not-goes_on, else-not-goes_on}

pub loop-at-init : goal.loop-at-init
loop-at-init c =
    let none = runs_of-zero (side_by_side c.args.junction c.args.left.runs.now c.args.left.from c.args.right.runs.now c.args.right.from) 0 refl in
    record {
      count = sym (ap length none);
      last = sym (ap last_flag none);
      within = omega arith;
      few = omega arith;
      left_at = omega (arith, c.new-a.ensures.at);
      right_at = omega (arith, c.new-b.ensures.at);
      left = c.new-a.ensures.runs;
      right = c.new-b.ensures.runs;
    }

pub loop-at-preserved : goal.loop-at-preserved
loop-at-preserved c =
    let f = side_by_side c.args.junction c.args.left.runs.now c.args.left.from c.args.right.runs.now c.args.right.from in
    let a = c.loop-at.a in
    let b = c.loop-at.b in
    let inv = c.loop-at.invariant in
    let step = c.min-step.result in
    let before = runs_of f c.loop-at.at in
    let grown = join_step c.args.junction c.args.left.runs.now c.args.right.runs.now c.args.left.from c.args.right.from c.loop-at.at
    c.steady.result c.steady-in-loop-at.result step a.on b.on
    (omega (arith, c.steady.ensures.some, c.steady-in-loop-at.ensures.some)) (omega arith) (omega arith)
    (λ i h. rw (inv.left, inv.left_at) at (c.steady.ensures.flags i h))
    (λ i h. rw (inv.right, inv.right_at) at (c.steady-in-loop-at.ensures.flags i h)) in
    let now : runs_of f (c.loop-at.at + step) ≡ extended before c.joined-on.result step =
    grown ∙ ap (λ on. extended before on step) (sym c.joined-on.ensures) in
    let last = ap last_flag now ∙ last_flag-extended before c.joined-on.result step in
    let counted : c.if-not-goes_on.count ≡ length (extended before c.joined-on.result step) = elim c.if-not-goes_on.branch [
      | then-not-goes_on w ↦
          w.count-is ∙ ap (λ n. n + 1) inv.count
          ∙ sym (length-extended_other before c.joined-on.result step (λ e. let no = w.if-not-goes_on.ensures.1 (inv.last ∙ e) in cc))
      | else-not-goes_on w ↦
          w.count-is ∙ inv.count
          ∙ sym (length-extended_same before c.joined-on.result step (sym inv.last ∙ w.if-not-goes_on.ensures.0 refl))
    ] in
    let few : c.if-not-goes_on.count ≤ c.loop-at.at + step = elim c.if-not-goes_on.branch [
      | then-not-goes_on w ↦ omega (arith, c.steady.ensures.some, c.steady-in-loop-at.ensures.some)
      | else-not-goes_on w ↦ omega arith
    ] in
    record {
      count = counted ∙ sym (ap length now);
      last = sym last;
      within = omega arith;
      few = few;
      left_at = omega (arith, c.advance.ensures.at);
      right_at = omega (arith, c.advance-in-loop-at.ensures.at);
      left = c.advance.ensures.runs ∙ inv.left;
      right = c.advance-in-loop-at.ensures.runs ∙ inv.right;
    }
