use Rattle.std.proofs.Common.{◌≡◌, ◌∙◌, ◌-ℤ◌, ◌+ℤ◌, ◌*ℤ◌, sym, ap, arith, pos, unsigned_abs, to_z, of_z, w64}
use Rattle.jiff_core.proofs.SignedLemmas.{signed_casts}
use Rattle.ts_base.specs.Moment.{stamp_if_any}
use Rattle.ts_calendar.specs.Dated.{IsInMonth}
use Rattle.ts_calendar.proofs.StampLemmas.{stamp-some}
use Rattle.ts_calendar.proofs.LineLemmas.{month_at}
use Rattle.ts_calendar.proofs.DatedLemmas.{in_month_at, in-month}
use Rattle.ts_calendar.proofs.dated.Dated.in_month.Goals as goal

pub overflow_add-units : goal.overflow_add-units
overflow_add-units c = omega (arith, signed_casts, c.first_day.ensures.bounds, c.self.invariant.after, c.self.invariant.before)

pub unreachable-requires : goal.unreachable-requires
unreachable-requires c =
    let x = c.self.inside in
    let t = c.args.self.now in
    let i : IsInMonth t x.month x.within = rw c.self.view_is at c.self.invariant in
    let n = unsigned_abs (to_z w64 (of_z w64 c.args.month)) in
    let years = c.requires.years in
    let r = in-month t (c.args.month -ℤ month_at t) x.month x.within n i c.requires.early (omega (arith, signed_casts, years, i.number))
    (omega (arith, signed_casts, years)) (omega (arith, signed_casts, years)) in
    let same : to_z w64 (of_z w64 (to_z w64 (of_z w64 (to_z w64 (of_z w64 c.first_day.result) *ℤ pos 8_640_000_000)) +ℤ to_z w64 (of_z w64 x.within))) ≡ in_month_at n x.within =
    omega (arith, signed_casts, c.first_day.ensures, i.after, i.before) in
    let made = c.of.ensures ∙ ap stamp_if_any same ∙ stamp-some (in_month_at n x.within) r.1 in
    let none = c.in_default.is in
    cc

pub returns : goal.returns
returns c =
    let x = c.self.inside in
    let t = c.args.self.now in
    let i : IsInMonth t x.month x.within = rw c.self.view_is at c.self.invariant in
    let n = unsigned_abs (to_z w64 (of_z w64 c.args.month)) in
    let years = c.requires.years in
    let r = in-month t (c.args.month -ℤ month_at t) x.month x.within n i c.requires.early (omega (arith, signed_casts, years, i.number))
    (omega (arith, signed_casts, years)) (omega (arith, signed_casts, years)) in
    let same : to_z w64 (of_z w64 (to_z w64 (of_z w64 (to_z w64 (of_z w64 c.first_day.result) *ℤ pos 8_640_000_000)) +ℤ to_z w64 (of_z w64 x.within))) ≡ in_month_at n x.within =
    omega (arith, signed_casts, c.first_day.ensures, i.after, i.before) in
    let made = c.of.ensures ∙ ap stamp_if_any same ∙ stamp-some (in_month_at n x.within) r.1 in
    r.0 ∙ sym made ∙ c.in-Some.is
