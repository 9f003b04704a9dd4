use Rattle.std.proofs.Common.{◌≡◌, ◌+◌, ◌-◌, ◌*◌, ◌+ℤ◌, ◌-ℤ◌, ◌*ℤ◌, ◌∙◌, sym, ap, arith, subst, pos, to_z, of_z, w64}
use Rattle.jiff_core.proofs.SignedLemmas.{signed_casts}
use Rattle.ts_base.specs.Moment.{civil_of, day_of, clock_of}
use Rattle.ts_calendar.specs.Dated.{IsInMonth}
use Rattle.ts_calendar.proofs.DatedLemmas.{placed}
use Rattle.ts_calendar.proofs.dated.Dated.of.Goals as goal

pub invariant_of-result : goal.invariant_of-result
invariant_of-result c =
    let t = c.args.stamp in
    let y = c.civil-year.result.0 in
    let m = c.civil-year.result.1 in
    let d = c.civil-year.result.2 in
    let e = c.civil-year.ensures in
    let day : day_of t ≡ to_z w64 (of_z w64 c.day_number.result) =
    sym c.day_number.ensures.value ∙ omega (arith, signed_casts, c.day_number.ensures.bounds) in
    let month : pos (y * 12 + (m - 1)) ≡ to_z w64 (y * 12 + (m - 1)) = omega (arith, signed_casts, e.year, e.month) in
    let within : pos ((d - 1) * 8_640_000_000 + clock_of t) -ℤ pos 6_216_203_520_000_000
    ≡ to_z w64 (of_z w64 (to_z w64 (of_z w64 (to_z w64 (of_z w64 (to_z w64 (d - 1) *ℤ pos 8_640_000_000)) +ℤ to_z w64 (of_z w64 c.rem_euclid.result))) -ℤ pos 6_216_203_520_000_000)) =
    omega (arith, signed_casts, e.day, c.rem_euclid.ensures, c.units_of.ensures.value, c.units_of.ensures.within) in
    subst (λ n. IsInMonth t (to_z w64 (y * 12 + (m - 1))) n) within
    (subst (λ n. IsInMonth t n (pos ((d - 1) * 8_640_000_000 + clock_of t) -ℤ pos 6_216_203_520_000_000)) month
    (placed t y m d c.day_number.ensures.within (ap civil_of day ∙ e.civil) e.year.0 e.year.1 e.month.0 e.month.1 e.day.0 e.day.1))
