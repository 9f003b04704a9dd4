use Rattle.std.proofs.Common.{◌≡◌, ◌∙◌, ◌-ℤ◌, ◌+ℤ◌, ◌*ℤ◌, sym, ap, arith, to_z, of_z, w64}
use Rattle.jiff_core.proofs.SignedLemmas.{signed_casts}
use Rattle.ts_base.specs.Moment.{months_after}
use Rattle.ts_calendar.specs.Dated.{IsInMonth}
use Rattle.ts_calendar.proofs.LineLemmas.{month_at}
use Rattle.ts_calendar.proofs.DatedLemmas.{month-exists, product}
use Rattle.ts_calendar.proofs.dated.Dated.existing_months_later.Goals as goal

pub overflow_mul-times : goal.overflow_mul-times
overflow_mul-times c =
    let x = c.self.inside in
    let t = c.args.self.now in
    let i : IsInMonth t x.month x.within = rw c.self.view_is at c.self.invariant in
    let there = month-exists t (c.args.times *ℤ c.args.months) x.month x.within i c.requires.early c.requires.exists in
    rw (product c.args.times c.args.months c.ranges.times c.ranges.months) (omega (arith, signed_casts, there, i.from, i.to))

pub overflow_add-month : goal.overflow_add-month
overflow_add-month c =
    let x = c.self.inside in
    let t = c.args.self.now in
    let i : IsInMonth t x.month x.within = rw c.self.view_is at c.self.invariant in
    let there = month-exists t (c.args.times *ℤ c.args.months) x.month x.within i c.requires.early c.requires.exists in
    rw (product c.args.times c.args.months c.ranges.times c.ranges.months) (omega (arith, signed_casts, there, i.from, i.to))

pub in_month-requires-clause-years : goal.in_month-requires-clause-years
in_month-requires-clause-years c =
    let x = c.self.inside in
    let t = c.args.self.now in
    let i : IsInMonth t x.month x.within = rw c.self.view_is at c.self.invariant in
    let there = month-exists t (c.args.times *ℤ c.args.months) x.month x.within i c.requires.early c.requires.exists in
    rw (product c.args.times c.args.months c.ranges.times c.ranges.months) (omega (arith, signed_casts, there, i.from, i.to), omega (arith, signed_casts, there, i.from, i.to))

pub returns : goal.returns
returns c =
    let x = c.self.inside in
    let t = c.args.self.now in
    let i : IsInMonth t x.month x.within = rw c.self.view_is at c.self.invariant in
    let m = c.args.times *ℤ c.args.months in
    let there = month-exists t m x.month x.within i c.requires.early c.requires.exists in
    let e = rw (product c.args.times c.args.months c.ranges.times c.ranges.months) at c.in_month.ensures in
    let moved : to_z w64 (of_z w64 (to_z w64 (of_z w64 x.month) +ℤ to_z w64 (of_z w64 m))) -ℤ month_at t ≡ m = omega (arith, signed_casts, there, i.from, i.to, i.number) in
    ap (months_after t) (sym moved) ∙ e
