use Rattle.std.proofs.Common.{◌≡◌, ◌∙◌, sym, ap, subst, arith, true, false, Option, Some, None, ℤ, pos, ◌+ℤ◌, to_z, of_z, w64}
use Rattle.std.proofs.lemmas.Int.{ints}
use Rattle.ts_calendar.specs.Calendars.{CalendarPlan, is_on, start_at}
use Rattle.ts_offset.specs.Grid.{cal_stamp}
use Rattle.ts_aggregate.specs.Groups.{WantedPlan, asked_start, IsSpan}
use Rattle.ts_aggregate.proofs.LengthLemmas.{if_there}
use Rattle.ts_aggregate.proofs.SpanLemmas.{span_on, span_off}
use Rattle.ts_aggregate.proofs.wanted.WantedIntervals.seek.Goals as goal

pub returns-in-Some-clause-span : goal.returns-in-Some-clause-span
returns-in-Some-clause-span c =
    let asked : CalendarPlan → WantedPlan = λ plan. record { calendar = plan; from = c.self.inside.from; to = c.self.inside.to } in
    let plan : CalendarPlan = c.calendar-calendar.result.now in
    let own : plan ≡ c.self.inside.counter.now = c.calendar-calendar.ensures in
    let seen = ap asked own ∙ c.self.view_is in
    let wanted : WantedPlan = asked plan in
    let k : ℤ = c.interval_around-interval.result in
    let e = c.interval_around-interval.ensures in
    let s : ℤ = c.in-Some.start in
    let same : to_z w64 (of_z w64 k) ≡ k = omega (arith, ints, e.near) in
    let on : is_on plan k ≡ true = ap (is_on plan) (sym same) ∙ c.in-Some.ensures.on in
    let at : start_at plan k ≡ Some s = ap (start_at plan) (sym same) ∙ c.in-Some.ensures.start in
    let start : c.asked.result ≡ asked_start wanted (start_at plan k) =
    c.asked.ensures ∙ ap (λ (w : WantedPlan). asked_start w (Some s)) (sym seen) ∙ ap (asked_start wanted) (sym at) in
    let end : c.end_of.result ≡ start_at plan (k +ℤ pos 1) = c.end_of.ensures
    ∙ ap (λ (j : ℤ). start_at c.args.self.now.calendar (j +ℤ pos 1)) same ∙ sym (ap (λ (w : WantedPlan). start_at w.calendar (k +ℤ pos 1)) seen) in
    subst (λ (w : WantedPlan). IsSpan w c.args.stamp (record { start = c.asked.result; end = c.end_of.result })) seen
    (subst (λ (o : Option ℤ). IsSpan wanted c.args.stamp (record { start = c.asked.result; end = o })) (sym end)
    (span_on wanted c.args.stamp k c.asked.result e.laid e.around on start))

pub returns-clause-span : goal.returns-clause-span
returns-clause-span c =
    let asked : CalendarPlan → WantedPlan = λ plan. record { calendar = plan; from = c.self.inside.from; to = c.self.inside.to } in
    let plan : CalendarPlan = c.calendar-calendar.result.now in
    let own : plan ≡ c.self.inside.counter.now = c.calendar-calendar.ensures in
    let seen = ap asked own ∙ c.self.view_is in
    let wanted : WantedPlan = asked plan in
    let k : ℤ = c.interval_around-interval.result in
    let e = c.interval_around-interval.ensures in
    let same : to_z w64 (of_z w64 k) ≡ k = omega (arith, ints, e.near) in
    let off : is_on plan k ≡ false = ap (is_on plan) (sym same) ∙ c.in_default.ensures.off in
    let end : c.cal_stamp.result ≡ cal_stamp plan c.args.stamp 1 = c.cal_stamp.ensures.value
    ∙ ap (λ (p : CalendarPlan). cal_stamp p c.args.stamp 1) (sym own) in
    subst (λ (w : WantedPlan). IsSpan w c.args.stamp (record { start = None; end = c.cal_stamp.result })) seen
    (subst (λ (o : Option ℤ). IsSpan wanted c.args.stamp (record { start = None; end = o })) (sym end)
    (span_off wanted c.args.stamp k e.laid e.stamp e.around off))

pub end_of-requires-clause-start : goal.end_of-requires-clause-start
end_of-requires-clause-start c =
    let asked : CalendarPlan → WantedPlan = λ plan. record { calendar = plan; from = c.self.inside.from; to = c.self.inside.to } in
    let seen = ap asked c.calendar-calendar.ensures ∙ c.self.view_is in
    subst (λ (w : WantedPlan). start_at w.calendar (to_z w64 (of_z w64 c.interval_around-interval.result)) ≡ Some c.in-Some.start) seen c.in-Some.ensures.start

pub returns-in-Some-clause-behind : goal.returns-in-Some-clause-behind
returns-in-Some-clause-behind c =
    let plan : CalendarPlan = c.args.self.now.calendar in
    let k : ℤ = c.interval_around-interval.result in
    let e = c.interval_around-interval.ensures in
    let same : to_z w64 (of_z w64 k) ≡ k = omega (arith, ints, e.near) in
    if_there (λ j. j ≡ to_z w64 (of_z w64 k) +ℤ pos 1) (λ j. start_at plan j ≡ c.end_of.result)
    (λ j is. ap (start_at plan) is ∙ sym c.end_of.ensures) c.next_of.result c.next_of.ensures
