use Rattle.std.proofs.Common.{◌≡◌, ℤ, pos, ◌+ℤ◌, ◌≤ℤ◌, ◌<ℤ◌, sym, subst, to_z, of_z, w64, arith}
use Rattle.std.proofs.lemmas.Int.{ints}
use Rattle.ts_row.specs.Row.{seen}
use Rattle.ts_shelf.proofs.ReadingLemmas.{then_reads, reads_as}
use Rattle.ts_combined_rows.specs.Pairs.{IsPartSaid}
use Rattle.ts_combined_rows.proofs.PairLemmas.{IsUnderWay, told_still, gone_on, all_said}
use Rattle.ts_combined_rows.proofs.pairs.say_pair.Goals as goal

pub loop-low-preserved : goal.loop-low-preserved
loop-low-preserved g c =
    let tells = g.P.Pages.tells in
    let pair = c.args.pair.now in
    let v = g.P.Pages.contents c.args.pages.now in
    let u = g.P.Pages.contents c.loop-low.pages in
    let w = g.P.Pages.contents c.say_part.new.pages in
    let so_far = c.loop-low.invariant in
    let low : ℤ = to_z w64 c.loop-low.low-bits in
    let end = c.part_end-end.result in
    let all = c.in_ok-count.count in
    let value = c.units-low-in-loop-low.ensures.value in
    let within = c.units-low-in-loop-low.ensures.within in
    let next : to_z w64 (of_z w64 (to_z w64 (of_z w64 c.units-low-in-loop-low.result) +ℤ pos 1)) ≡ end +ℤ pos 1 = omega (arith, ints, value, within.0, within.1) in
    let start : c.stamp_between-start.result ≡ low = c.stamp_between-start.ensures in
    let up : low ≤ℤ end = subst (λ (s : ℤ). s ≤ℤ end) start c.part_end-end.ensures.from in
    let late = so_far.late in
    record {
      call = reads_as tells all tt v w (then_reads tells tt all v u w so_far.call c.in_ok-count.ensures.call);
      undisturbed = g.met.P.Pages.«then» c.args.pages.now c.loop-low.pages c.say_part.new.pages so_far.undisturbed c.in_ok-count.ensures.undisturbed;
      late = omega (arith, ints, next, late, up);
      said = λ told es have again fs have'.
          let part =
          told_still pair tells tt v u so_far.call (λ es fs. IsPartSaid pair es fs c.stamp_between-start.result end c.loop-low.count c.loop-low.out all c.say_part.new.out) c.in_ok-count.ensures.said
          told es have again fs have' in
          subst (λ (s : ℤ). IsUnderWay pair (seen es) (seen fs) c.args.from s c.args.to c.args.out.now all c.say_part.new.out) (sym next)
          (gone_on pair (seen es) (seen fs) c.args.from low end c.args.to c.args.out.now c.loop-low.out c.say_part.new.out c.loop-low.count all up c.part_end-end.ensures.to (so_far.said told es have again fs have')
          (subst (λ (s : ℤ). IsPartSaid pair (seen es) (seen fs) s end c.loop-low.count c.loop-low.out all c.say_part.new.out) start part));
    }

pub returns-clause-said : goal.returns-clause-said
returns-clause-said g c = λ told es have again fs have'.
    let value = c.units.ensures.value in
    let end = c.loop-low-test.false in
    let low : ℤ = to_z w64 c.loop-low.low-bits in
    let over : c.args.to <ℤ low = omega (arith, ints, value, end) in
    all_said c.args.pair.now (g.P.Pages.contents c.args.pages.now) c.requires.pair es fs have have' c.args.from low c.args.to c.args.out.now c.loop-low.out c.loop-low.count over
    (c.loop-low.invariant.said told es have again fs have')
