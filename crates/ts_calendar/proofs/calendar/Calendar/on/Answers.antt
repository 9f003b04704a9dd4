use Rattle.std.proofs.Common.{◌∙◌, sym, ap, rules, FitsSigned, to_z-of_z, w64}
use Rattle.ts_calendar.specs.Calendars.{is_on}
use Rattle.ts_calendar.proofs.calendar.Calendar.on.Goals as goal

pub returns-in-Some : goal.returns-in-Some
returns-in-Some c =
    let plan = c.args.self.now in
    let fits : FitsSigned w64 c.in-Some.k = search rules in
    let on_is = c.is_on.ensures ∙ ap (is_on plan) (to_z-of_z fits) in (
      λ h. record { interval = c.in-Some.k; on = sym on_is ∙ h; held = c.in-Some.ensures.found },
      λ w. on_is ∙ ap (is_on plan) (sym (c.in-Some.ensures.only w.interval w.held)) ∙ w.on,
    )

pub returns-in-None : goal.returns-in-None
returns-in-None c = (λ h. absurd (cc), λ w. absurd (c.in-None.ensures.none w.interval w.held))
