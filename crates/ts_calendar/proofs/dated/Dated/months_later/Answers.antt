use Rattle.std.proofs.Common.{◌≡◌, ◌∙◌, ◌-ℤ◌, ◌*ℤ◌, sym, ap, arith, to_z, of_z, w64, FitsSigned}
use Rattle.jiff_core.proofs.SignedLemmas.{signed_casts}
use Rattle.ts_base.specs.Moment.{months_after}
use Rattle.ts_calendar.specs.Dated.{IsInMonth}
use Rattle.ts_calendar.proofs.DatedLemmas.{too-early, too-late, none-far, product}
use Rattle.ts_calendar.proofs.LineLemmas.{month_at}
use Rattle.ts_calendar.proofs.dated.Dated.months_later.Goals.{then-month-lt12-via-then-month-lt12, then-month-lt12-via-else-month-lt12+then-month-gt119999}
use Rattle.ts_calendar.proofs.dated.Dated.months_later.Goals as goal

pub returns-in_err-later : goal.returns-in_err-later
returns-in_err-later c =
    let x = c.self.inside in
    let t = c.args.self.now in
    let i : IsInMonth t x.month x.within = rw c.self.view_is at c.self.invariant in
    let m = c.args.times *ℤ c.args.months in
    let far : FitsSigned w64 m → ⊥ = rw (product c.args.times c.args.months c.ranges.times c.ranges.months) at c.in_err-later.ensures in
    c.from_residual.ensures ∙ sym (none-far t m x.month x.within i c.requires (λ low high. far (omega (arith, signed_casts, i.from, i.to))))

pub returns-in_err-month : goal.returns-in_err-month
returns-in_err-month c =
    let x = c.self.inside in
    let t = c.args.self.now in
    let i : IsInMonth t x.month x.within = rw c.self.view_is at c.self.invariant in
    let m = c.args.times *ℤ c.args.months in
    let p = product c.args.times c.args.months c.ranges.times c.ranges.months in
    c.from_residual-in_err-month.ensures ∙ sym (none-far t m x.month x.within i c.requires
    (λ low high. c.in_err-month.ensures (omega (arith, signed_casts, c.in_ok-later.ensures, p, i.from, i.to))))

pub returns-then-month-lt12 : goal.returns-then-month-lt12
returns-then-month-lt12 c =
    let x = c.self.inside in
    let t = c.args.self.now in
    let i : IsInMonth t x.month x.within = rw c.self.view_is at c.self.invariant in
    let m = c.args.times *ℤ c.args.months in
    let p = product c.args.times c.args.months c.ranges.times c.ranges.months in
    elim c.then-month-lt12.branch [
      | then-month-lt12-via-then-month-lt12 w ↦
          sym (too-early t m x.month x.within i c.requires (omega (arith, signed_casts, p, c.in_ok-later.ensures, c.in_ok-month.ensures, w.if-month-lt12)))
      | then-month-lt12-via-else-month-lt12+then-month-gt119999 w ↦
          sym (too-late t m x.month x.within i c.requires (omega (arith, signed_casts, p, c.in_ok-later.ensures, c.in_ok-month.ensures, w.if-month-gt119999)))
    ]

pub returns : goal.returns
returns c =
    let x = c.self.inside in
    let t = c.args.self.now in
    let i : IsInMonth t x.month x.within = rw c.self.view_is at c.self.invariant in
    let m = c.args.times *ℤ c.args.months in
    let p = product c.args.times c.args.months c.ranges.times c.ranges.months in
    let moved : to_z w64 (of_z w64 c.in_ok-month.month) -ℤ month_at t ≡ m = omega (arith, signed_casts, i.number, p, c.in_ok-later.ensures, c.in_ok-month.ensures) in
    sym (ap (months_after t) (sym moved) ∙ c.in_month.ensures)
