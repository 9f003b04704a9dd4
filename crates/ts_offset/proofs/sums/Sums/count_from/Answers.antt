use Rattle.std.proofs.Common.{◌≡◌, ◌<◌, ◌-◌, ◌∙◌, ap, arith, to_z, of_z, w64, subst}
use Rattle.std.proofs.lemmas.Int.{by_lt_z, ints}
use Rattle.jiff_core.proofs.SignedLemmas.{signed_casts}
use Rattle.ts_offset.specs.Grid.{gap, on_start}
use Rattle.ts_offset.specs.Sums.{IsKnown}
use Rattle.ts_offset.proofs.WindowLemmas.{gap-up, gap-none}
use Rattle.ts_offset.proofs.SumLemmas.{taken-le}
use Rattle.ts_offset.proofs.CountedLemmas.{counted-to}
use Rattle.ts_offset.proofs.sums.Sums.count_from.Goals as goal

pub returns-clause-value : goal.returns-clause-value
returns-clause-value c =
    let x = c.args.self.now in
    let n = c.args.from in
    let to : to_z w64 (of_z w64 c.args.to) ≡ c.args.to = omega (arith, signed_casts, c.requires.0) in
    let w = counted-to x.calendar x.spans.items x.round x.each x.place x.existing x.first n c.args.to c.known.result x.facts c.requires.1
    (subst (λ k. IsKnown x.first x.existing k c.known.result) to c.known.ensures) in
    c.saturating_sub.ensures ∙ ap (λ u. u - n.before) c.until.ensures.value ∙ w

pub returns-clause-few : goal.returns-clause-few
returns-clause-few c =
    let x = c.args.self.now in
    let n = c.args.from in
    let to : to_z w64 (of_z w64 c.args.to) ≡ c.args.to = omega (arith, signed_casts, c.requires.0) in
    let w = counted-to x.calendar x.spans.items x.round x.each x.place x.existing x.first n c.args.to c.known.result x.facts c.requires.1
    (subst (λ k. IsKnown x.first x.existing k c.known.result) to c.known.ensures) in
    let is = c.saturating_sub.ensures ∙ ap (λ u. u - n.before) c.until.ensures.value ∙ w in
    let near = c.requires.1.near in
    let small : gap n.interval c.args.to < 1_000_000_000_000 =
    by_lt_z n.interval c.args.to
    (λ lt. let width = gap-up n.interval c.args.to lt in omega (arith, ints, width, near, c.requires.0))
    (λ ge. let width = gap-none n.interval c.args.to ge in omega (arith, width)) in
    omega (arith, is, small, taken-le (on_start x.calendar) n.interval (gap n.interval c.args.to))
