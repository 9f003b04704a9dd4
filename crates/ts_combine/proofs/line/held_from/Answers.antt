-- The starts that are held begin at the stamp and end at the next interval's start, where there is one.
use Rattle.std.proofs.Common.{◌≡◌, ◌∙◌, sym, ap, arith, ℤ, pos, ◌+ℤ◌, to_z, of_z, w64, subst}
use Rattle.std.proofs.lemmas.Int.{ints}
use Rattle.ts_calendar.specs.Calendars.{start_at}
use Rattle.ts_calendar.proofs.LawLemmas.{starts-around}
use Rattle.ts_combine.specs.Line.{AreHeldFrom}
use Rattle.ts_combine.proofs.HoldLemmas.{held-some, held-none}
use Rattle.ts_combine.proofs.line.held_from.Goals as goal

pub returns-in-Some : goal.returns-in-Some
returns-in-Some c = λ own.
    let plan = c.args.calendar.now in
    let line = c.args.line.now in
    let s = c.args.stamp in
    let k = c.interval_around.result in
    let e = c.interval_around.ensures in
    let low = c.first_from-low.result in
    let high = c.first_from.result in
    let low_is : low ≡ to_z w64 (of_z w64 low) = omega (arith, ints) in
    let high_is : high ≡ to_z w64 (of_z w64 high) = omega (arith, ints) in
    let next : k +ℤ pos 1 ≡ to_z w64 (of_z w64 (to_z w64 (of_z w64 k) +ℤ pos 1)) = omega (arith, ints, e.near) in
    subst (λ (i : ℤ). AreHeldFrom plan line c.args.limit s i (to_z w64 (of_z w64 high))) low_is
    (subst (λ (i : ℤ). AreHeldFrom plan line c.args.limit s low i) high_is
    (held-some plan line s k low e.laid c.first_from-low.ensures.laid (starts-around plan s k e.laid e.stamp e.around) c.first_from-low.ensures.first own
    c.args.limit c.in-Some.end high (ap (start_at plan) next ∙ sym c.start_of.ensures ∙ c.in-Some.is) c.first_from.ensures.first))

pub returns-in-None : goal.returns-in-None
returns-in-None c = λ own.
    let plan = c.args.calendar.now in
    let line = c.args.line.now in
    let s = c.args.stamp in
    let k = c.interval_around.result in
    let e = c.interval_around.ensures in
    let low = c.first_from-low.result in
    let limit = c.args.limit in
    let low_is : low ≡ to_z w64 (of_z w64 low) = omega (arith, ints) in
    let limit_is : limit ≡ to_z w64 (of_z w64 limit) = omega (arith, ints) in
    let next : k +ℤ pos 1 ≡ to_z w64 (of_z w64 (to_z w64 (of_z w64 k) +ℤ pos 1)) = omega (arith, ints, e.near) in
    subst (λ (i : ℤ). AreHeldFrom plan line limit s i (to_z w64 (of_z w64 limit))) low_is
    (subst (λ (i : ℤ). AreHeldFrom plan line limit s low i) limit_is
    (held-none plan line s k low e.laid c.first_from-low.ensures.laid (starts-around plan s k e.laid e.stamp e.around) c.first_from-low.ensures.first own
    limit (ap (start_at plan) next ∙ sym c.start_of.ensures ∙ c.in-None.is)))
