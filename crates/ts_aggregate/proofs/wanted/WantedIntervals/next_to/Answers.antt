use Rattle.std.proofs.Common.{◌≡◌, ◌∙◌, sym, ap, subst, arith, pos, ◌+ℤ◌, to_z, of_z, w64}
use Rattle.std.proofs.lemmas.Int.{ints}
use Rattle.ts_calendar.specs.Calendars.{IsLaid, IsNear, start_at}
use Rattle.ts_calendar.proofs.LawLemmas.{start-near}
use Rattle.ts_aggregate.specs.Groups.{WantedPlan}
use Rattle.ts_aggregate.proofs.wanted.WantedIntervals.next_to.Goals as goal

pub overflow_add-result : goal.overflow_add-result
overflow_add-result c =
    let asked = ap (λ plan. record { calendar = plan; from = c.self.inside.from; to = c.self.inside.to }) c.calendar.ensures ∙ c.self.view_is in
    let laid : IsLaid c.args.self.now.calendar = subst (λ (p : WantedPlan). IsLaid p.calendar) asked c.patt_start-laid.ensures.laid in
    let plan = c.args.self.now.calendar in
    let near : IsNear c.args.interval = start-near plan.pattern.unit plan.patt_start c.args.interval c.args.start laid.stamp laid.early c.requires in
    omega (arith, ints, near)

pub end_of-requires-clause-near : goal.end_of-requires-clause-near
end_of-requires-clause-near c =
    let asked = ap (λ plan. record { calendar = plan; from = c.self.inside.from; to = c.self.inside.to }) c.calendar.ensures ∙ c.self.view_is in
    let laid : IsLaid c.args.self.now.calendar = subst (λ (p : WantedPlan). IsLaid p.calendar) asked c.patt_start-laid.ensures.laid in
    let plan = c.args.self.now.calendar in
    let near : IsNear c.args.interval = start-near plan.pattern.unit plan.patt_start c.args.interval c.args.start laid.stamp laid.early c.requires in
    (omega (arith, ints, near), omega (arith, ints, near))

pub returns-clause-behind : goal.returns-clause-behind
returns-clause-behind c =
    let asked = ap (λ plan. record { calendar = plan; from = c.self.inside.from; to = c.self.inside.to }) c.calendar.ensures ∙ c.self.view_is in
    let laid : IsLaid c.args.self.now.calendar = subst (λ (p : WantedPlan). IsLaid p.calendar) asked c.patt_start-laid.ensures.laid in
    let plan = c.args.self.now.calendar in
    let near : IsNear c.args.interval = start-near plan.pattern.unit plan.patt_start c.args.interval c.args.start laid.stamp laid.early c.requires in
    let next : to_z w64 (of_z w64 (to_z w64 (of_z w64 c.args.interval) +ℤ pos 1)) ≡ to_z w64 (of_z w64 c.args.interval) +ℤ pos 1 = omega (arith, ints, near) in
    ap (start_at plan) next ∙ sym c.end_of.ensures
