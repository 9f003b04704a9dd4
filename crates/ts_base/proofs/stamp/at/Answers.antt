use Rattle.std.proofs.Common.{◌≡◌, pos, arith, ◌≤ℤ◌, ap, Some, ◌∙◌, sym}
use Rattle.jiff_core.proofs.SignedLemmas.{signed_casts}
use Rattle.ts_base.specs.Moment.{Moment}
use Rattle.ts_base.proofs.CivilLemmas.{days_bounds, stamp_at-moment, same_parts}
use Rattle.ts_base.proofs.stamp.at.Goals as goal

pub invariant_of-result : goal.invariant_of-result
invariant_of-result c =
    let d = c.in-Ok.day in
    let parts = c.in-Ok.ensures.value in
    let from : pos 1 ≤ℤ d.year = omega (arith, signed_casts, parts.0) in
    let b = days_bounds d.year d.month d.day (d.year_in, d.month_in, d.day_in) from in
    omega (arith, signed_casts, b.0, b.1, c.to_unix_epoch_day.ensures.value)

pub returns : goal.returns
returns c =
    let d = c.in-Ok.day in
    let parts = c.in-Ok.ensures.value in
    let year : d.year ≡ pos c.args.year = omega (arith, signed_casts, parts.0) in
    let month : d.month ≡ c.args.month = omega (arith, signed_casts, parts.1) in
    let day : d.day ≡ c.args.day = omega (arith, signed_casts, parts.2) in
    let from : pos 1 ≤ℤ d.year = omega (arith, signed_casts, parts.0) in
    let b = days_bounds d.year d.month d.day (d.year_in, d.month_in, d.day_in) from in
    let same = same_parts d.year (pos c.args.year) d.month c.args.month d.day c.args.day year month day (d.year_in, d.month_in, d.day_in) in
    let m : Moment = record { year = c.args.year; month = c.args.month; day = c.args.day; hour = c.args.hour; minute = c.args.minute; second = c.args.second; fraction = c.args.fraction } in
    ap Some (omega (arith, signed_casts, b.0, b.1, same.1, c.to_unix_epoch_day.ensures.value)) ∙ sym (stamp_at-moment m (omega arith) same.0 (omega arith) (omega arith) (omega arith) (omega arith))
