use Rattle.std.proofs.Common.{◌≡◌, ◌∙◌, sym, ap, subst, arith, ℤ, pos, ◌+ℤ◌, Some, Option, to_z, of_z, w64}
use Rattle.std.specs.Prelude.{IfSome}
use Rattle.std.proofs.lemmas.Int.{ints}
use Rattle.ts_base.specs.Moment.{stamp_if_any}
use Rattle.ts_calendar.specs.Calendars.{CalendarPlan, start_at}
use Rattle.ts_aggregate.specs.Groups.{Lasts, WantedPlan}
use Rattle.ts_aggregate.proofs.wanted.WantedIntervals.end_of.Goals as goal

pub overflow_add-interval : goal.overflow_add-interval
overflow_add-interval c = omega (arith, ints, c.requires.near)

pub returns-in-Some : goal.returns-in-Some
returns-in-Some c =
    let plan : CalendarPlan = c.self.inside.counter.now in
    let k : ℤ = c.args.interval in
    let s : ℤ = c.args.start in
    let w : Lasts plan c.in-Some.length = subst (λ (o : Option ℤ). IfSome o (Lasts plan)) c.in-Some.is c.self.invariant in
    let from : start_at plan k ≡ Some s = subst (λ (p : WantedPlan). start_at p.calendar k ≡ Some s) (sym c.self.view_is) c.requires.start in
    let sum : to_z w64 (of_z w64 (to_z w64 (of_z w64 c.units.result) +ℤ to_z w64 (of_z w64 c.in-Some.length))) ≡ s +ℤ c.in-Some.length =
    omega (arith, ints, c.units.ensures.value, c.units.ensures.within, w.low, w.high) in
    c.of.ensures ∙ ap stamp_if_any sum ∙ sym (w.next k s from) ∙ ap (λ (p : WantedPlan). start_at p.calendar (k +ℤ pos 1)) c.self.view_is

pub returns-in-None : goal.returns-in-None
returns-in-None c =
    let k : ℤ = c.args.interval in
    let next : to_z w64 (of_z w64 (to_z w64 (of_z w64 k) +ℤ pos 1)) ≡ k +ℤ pos 1 = omega (arith, ints, c.requires.near) in
    c.start_of.ensures ∙ ap (start_at c.calendar.result.now) next ∙ ap (λ (p : CalendarPlan). start_at p (k +ℤ pos 1)) c.calendar.ensures
    ∙ ap (λ (p : WantedPlan). start_at p.calendar (k +ℤ pos 1)) c.self.view_is
