use Rattle.std.proofs.Common.{◌≡◌, ◌∙◌, sym, ap, subst, arith, true, ℤ, pos, ◌+ℤ◌, ◌≤ℤ◌, Some, Option, to_z, of_z, w64}
use Rattle.std.specs.Prelude.{IfSome}
use Rattle.std.proofs.lemmas.Int.{by_lt_z, ints}
use Rattle.ts_calendar.specs.Calendars.{CalendarPlan, IsBefore, IsNear, is_on, start_at}
use Rattle.ts_calendar.proofs.LawLemmas.{start-near}
use Rattle.ts_aggregate.specs.Groups.{WantedPlan, asked_start, IsSpan}
use Rattle.ts_aggregate.proofs.SpanLemmas.{span_in}
use Rattle.ts_aggregate.proofs.wanted.WantedIntervals.reach.Goals as goal

pub returns-then-is_on_at-clause-span : goal.returns-then-is_on_at-clause-span
returns-then-is_on_at-clause-span c =
    let wanted : WantedPlan = c.args.self.now in
    let at : ℤ = c.args.stamp in
    let k : ℤ = c.in-Some.interval in
    let s : ℤ = c.in-Some-end.start in
    let r = c.next_to-reached in
    let from : start_at wanted.calendar k ≡ Some s =
    subst (λ (o : Option ℤ). IfSome o (λ j. start_at wanted.calendar j ≡ c.args.from.span.end)) c.in-Some.is c.requires.behind ∙ c.in-Some-end.is in
    let low : s ≤ℤ at = by_lt_z at s (λ lt. absurd (c.requires.late (subst (IsBefore at) (sym c.in-Some-end.is) lt))) (λ ge. ge) in
    let plan : CalendarPlan = wanted.calendar in
    let near : IsNear k = start-near plan.pattern.unit plan.patt_start k s r.ensures.laid.stamp r.ensures.laid.early from in
    let same : to_z w64 (of_z w64 k) ≡ k = omega (arith, ints, near) in
    let end : r.result.span.end ≡ start_at plan (k +ℤ pos 1) = r.ensures.end ∙ ap (λ (j : ℤ). start_at plan (j +ℤ pos 1)) same in
    let here : IsBefore at (start_at wanted.calendar (k +ℤ pos 1)) =
    subst (IsBefore at) end (c.is_of.ensures.0 c.if-is_of.true) in
    let own = ap (λ plan. record { calendar = plan; from = c.self.inside.from; to = c.self.inside.to }) c.calendar.ensures ∙ c.self.view_is in
    let on : is_on wanted.calendar k ≡ true =
    ap (is_on plan) (sym same) ∙ sym (ap (λ (p : WantedPlan). is_on p.calendar (to_z w64 (of_z w64 k))) own) ∙ sym c.is_on_at.ensures ∙ c.if-is_on_at.true in
    subst (λ (o : Option ℤ). IsSpan wanted at (record { start = r.result.span.start; end = o })) (sym end)
    (span_in wanted at k s r.result.span.start r.ensures.laid from low here on (r.ensures.start ∙ ap (asked_start wanted) (sym from)))
