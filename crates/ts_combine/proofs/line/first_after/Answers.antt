-- The interval behind the one around a stamp.
use Rattle.std.proofs.Common.{◌≡◌, arith, ℤ, pos, ◌+ℤ◌, ◌-ℤ◌, ◌≤ℤ◌, to_z, of_z, w64, subst}
use Rattle.std.proofs.lemmas.Int.{ints}
use Rattle.ts_calendar.proofs.LawLemmas.{starts-around}
use Rattle.ts_calendar.specs.Line.{line_at}
use Rattle.ts_offset.specs.Grid.{IsFirstFrom}
use Rattle.ts_offset.proofs.StartLemmas.{first-next}
use Rattle.ts_combine.proofs.line.first_after.Goals as goal

pub returns-clause-first : goal.returns-clause-first
returns-clause-first c =
    let plan = c.args.calendar.now in
    let k = c.interval_around.result in
    let e = c.interval_around.ensures in
    let next : k +ℤ pos 1 ≡ to_z w64 (of_z w64 (to_z w64 (of_z w64 k) +ℤ pos 1)) = omega (arith, ints, e.near) in
    subst (IsFirstFrom plan (c.args.stamp +ℤ pos 1)) next
    (first-next plan k c.args.stamp e.laid (starts-around plan c.args.stamp k e.laid e.stamp e.around) (omega (arith, ints, e.near), omega (arith, ints, e.near)))

pub returns-clause-line : goal.returns-clause-line
returns-clause-line c =
    let plan = c.args.calendar.now in
    let k = c.interval_around.result in
    let e = c.interval_around.ensures in
    let here : k ≡ to_z w64 (of_z w64 (to_z w64 (of_z w64 k) +ℤ pos 1)) -ℤ pos 1 = omega (arith, ints, e.near) in
    let around = starts-around plan c.args.stamp k e.laid e.stamp e.around in
    subst (λ (i : ℤ). line_at plan.pattern.unit plan.patt_start i ≤ℤ c.args.stamp) here around.after
