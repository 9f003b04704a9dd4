use Rattle.std.proofs.Common.{◌≡◌, ◌∙◌, sym, ap, subst, arith, true, false, Option, Some, ℤ, pos, ◌+ℤ◌, ◌<ℤ◌, to_z, of_z, w64}
use Rattle.std.proofs.lemmas.Int.{ints}
use Rattle.ts_base.specs.Moment.{IsStamp}
use Rattle.ts_calendar.specs.Calendars.{CalendarPlan, is_on, start_at, IsBefore}
use Rattle.ts_offset.specs.Grid.{held_start}
use Rattle.ts_aggregate.specs.Groups.{WantedPlan}
use Rattle.ts_aggregate.proofs.SpanLemmas.{last_on, last_off}
use Rattle.ts_aggregate.proofs.wanted.WantedIntervals.last.Goals as goal

pub returns-then-not-is_on : goal.returns-then-not-is_on
returns-then-not-is_on c =
    let asked : CalendarPlan → WantedPlan = λ plan. record { calendar = plan; from = c.self.inside.from; to = c.self.inside.to } in
    let plan : CalendarPlan = c.calendar-calendar.result.now in
    let to : ℤ = c.self.inside.to in
    let k : ℤ = c.interval_around-interval.result in
    let e = c.interval_around-interval.ensures in
    let same : to_z w64 (of_z w64 k) ≡ k = omega (arith, ints, e.near) in
    let off : is_on plan k ≡ false = sym (c.is_on.ensures ∙ ap (is_on plan) same) ∙ c.if-not-is_on.true in
    subst (λ (w : WantedPlan). (t s : ℤ) → IsStamp t → to <ℤ t → held_start w.calendar t ≡ Some s → w.to <ℤ s) (ap asked c.calendar-calendar.ensures ∙ c.self.view_is)
    (last_off plan to k e.laid e.stamp e.around off)

pub returns : goal.returns
returns c =
    let asked : CalendarPlan → WantedPlan = λ plan. record { calendar = plan; from = c.self.inside.from; to = c.self.inside.to } in
    let plan : CalendarPlan = c.calendar-calendar.result.now in
    let to : ℤ = c.self.inside.to in
    let last : ℤ = c.last_before.result in
    let k : ℤ = c.interval_around-interval.result in
    let e = c.interval_around-interval.ensures in
    let same : to_z w64 (of_z w64 k) ≡ k = omega (arith, ints, e.near) in
    let next : to_z w64 (of_z w64 (to_z w64 (of_z w64 k) +ℤ pos 1)) ≡ k +ℤ pos 1 = omega (arith, ints, e.near) in
    let on : is_on plan k ≡ true = sym (c.is_on.ensures ∙ ap (is_on plan) same) ∙ c.if-not-is_on.false in
    let end : c.start_of.result ≡ start_at plan (k +ℤ pos 1) = c.start_of.ensures ∙ ap (start_at plan) next in
    let behind = subst (λ (o : Option ℤ). (t : ℤ) → IsStamp t → last <ℤ t → IsBefore t o → ⊥) end c.last_before.ensures in
    subst (λ (w : WantedPlan). (t s : ℤ) → IsStamp t → last <ℤ t → held_start w.calendar t ≡ Some s → w.to <ℤ s) (ap asked c.calendar-calendar.ensures ∙ c.self.view_is)
    (last_on plan to k last e.laid e.around on behind)
