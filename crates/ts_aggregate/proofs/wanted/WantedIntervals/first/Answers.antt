use Rattle.std.proofs.Common.{[], None, Some, ℤ, ◌∙◌, sym, ap, subst}
use Rattle.ts_calendar.specs.Calendars.{CalendarPlan}
use Rattle.ts_aggregate.specs.Groups.{WantedPlan, IsGoingOn}
use Rattle.ts_aggregate.proofs.SpanLemmas.{first_going}
use Rattle.ts_aggregate.proofs.wanted.WantedIntervals.first.Goals as goal

pub returns-clause-going : goal.returns-clause-going
returns-clause-going c =
    let asked : CalendarPlan → WantedPlan = λ plan. record { calendar = plan; from = c.self.inside.from; to = c.self.inside.to } in
    let plan : CalendarPlan = c.calendar-calendar.result.now in
    subst (λ (w : WantedPlan). IsGoingOn w (record { start = None; end = Some c.start.result }) [])
    (ap asked c.calendar-calendar.ensures ∙ c.self.view_is)
    (subst (λ (s : ℤ). IsGoingOn (asked plan) (record { start = None; end = Some s }) []) (sym c.start.ensures.value)
    (first_going (asked plan) c.patt_start-laid.ensures.laid))
