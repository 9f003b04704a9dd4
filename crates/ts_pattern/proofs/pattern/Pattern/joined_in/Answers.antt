use Rattle.std.proofs.Common.{◌≡◌, ◌∙◌, ap, arith, ℕ, ◌<◌, ◌*◌, map, List, pos, to_z-of_z}
use Rattle.ts_pattern.specs.declared.run.Run.{Run}
use Rattle.ts_pattern.specs.Patterns.{total, scaled, factor, plan_of_flags, joined_flag}
use Rattle.ts_pattern.specs.Line.{side_by_side}
use Rattle.ts_pattern.proofs.WholeLemmas.{place}
use Rattle.ts_pattern.proofs.AlgebraLemmas.{side_by_side-joined}
use Rattle.ts_pattern.proofs.PlanLemmas.{answers-same, plan-agree, tested, factor-positive}
use Rattle.ts_pattern.proofs.pattern.Pattern.joined_in.Goals as goal

pub returns : goal.returns
returns c =
    let a = c.args.self.now in
    let b = c.args.other.now in
    let u = c.args.unit in
    let fa = factor a.unit u in
    let fb = factor b.unit u in
    let left : c.deref.result.now ≡ map (scaled fa) a.runs = c.deref.ensures.value ∙ c.in_ok-left.ensures.value in
    let right : c.deref-2.result.now ≡ map (scaled fb) b.runs = c.deref-2.ensures.value ∙ c.in_ok-right.ensures.value in
    let left_from : c.place_of.result ≡ place c.args.shift (total a.runs * fa) =
    c.place_of.ensures.value ∙ ap (λ z. place z c.length_in.result) (to_z-of_z c.ranges.shift) ∙ ap (place c.args.shift) c.length_in.ensures.value in
    let right_from : c.place_of-2.result ≡ place c.args.other_shift (total b.runs * fb) =
    c.place_of-2.ensures.value ∙ ap (λ z. place z c.length_in-2.result) (to_z-of_z c.ranges.other_shift) ∙ ap (place c.args.other_shift) c.length_in-2.ensures.value in
    let j = c.args.junction in
    let n = c.args.length in
    let ta = (tested a.runs c.length_in.ensures.pattern).long in
    let tb = (tested b.runs c.length_in-2.ensures.pattern).long in
    let la : 0 < total a.runs * fa = omega (arith, c.length_in.ensures.value, c.length_in.ensures.some) in
    let lb : 0 < total b.runs * fb = omega (arith, c.length_in-2.ensures.value, c.length_in-2.ensures.some) in
    let lines : plan_of_flags u (side_by_side j c.deref.result.now c.place_of.result c.deref-2.result.now c.place_of-2.result) n
    ≡ plan_of_flags u (λ k. joined_flag j u a c.args.shift b c.args.other_shift (pos k)) n =
    ap (λ (rs : List Run). plan_of_flags u (side_by_side j rs c.place_of.result c.deref-2.result.now c.place_of-2.result) n) left
    ∙ ap (λ (k : ℕ). plan_of_flags u (side_by_side j (map (scaled fa) a.runs) k c.deref-2.result.now c.place_of-2.result) n) left_from
    ∙ ap (λ (rs : List Run). plan_of_flags u (side_by_side j (map (scaled fa) a.runs) (place c.args.shift (total a.runs * fa)) rs c.place_of-2.result) n) right
    ∙ ap (λ (k : ℕ). plan_of_flags u (side_by_side j (map (scaled fa) a.runs) (place c.args.shift (total a.runs * fa)) (map (scaled fb) b.runs) k) n) right_from
    ∙ plan-agree u (side_by_side j (map (scaled fa) a.runs) (place c.args.shift (total a.runs * fa)) (map (scaled fb) b.runs) (place c.args.other_shift (total b.runs * fb)))
    (λ k. joined_flag j u a c.args.shift b c.args.other_shift (pos k)) n
    (λ k. side_by_side-joined j u a b c.args.shift c.args.other_shift k (factor-positive a.unit u c.requires.left) ta la (factor-positive b.unit u c.requires.right) tb lb) in
    record { answer = answers-same _ _ _ lines c.pattern_of_lines.ensures.answer }
