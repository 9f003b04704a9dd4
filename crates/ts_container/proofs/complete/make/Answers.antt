use Rattle.std.proofs.Common.{◌≡◌, Bool, true, false, if◌then◌else◌, rules, Ok, Err, sym, ap, ◌∙◌}
use Rattle.ts_base.specs.declared.refusal.Refusal.TheVariants.{BadCalendar, AllOff}
use Rattle.ts_pattern.specs.Patterns.{has_on}
use Rattle.ts_calendar.specs.Calendars.{CalendarPlan, is_late, is_apart, valid_calendar}
use Rattle.ts_model.specs.declared.def.Def.TheVariants as defs
use Rattle.ts_container.proofs.complete.make.Goals as goal

-- a valid calendar has the parts that it was made of
of_tests : (late apart on : Bool) (c x : CalendarPlan) → (if late then Err (BadCalendar 0) else (if apart then Err (BadCalendar 0) else (if on then Ok c else Err AllOff))) ≡ Ok x → x ≡ c
of_tests true apart on c x is = absurd (cc)
of_tests false true on c x is = absurd (cc)
of_tests false false true c x is = cc
of_tests false false false c x is = absurd (cc)

its_parts : (c x : CalendarPlan) → valid_calendar c ≡ Ok x → x ≡ c
its_parts c x is = of_tests (is_late c.pattern.unit c.patt_start) (is_apart c) (has_on c.pattern.runs) c x is

pub returns-in_ok-calendar-in-Ok : goal.returns-in_ok-calendar-in-Ok
returns-in_ok-calendar-in-Ok c =
    let plan : CalendarPlan = record { start = c.args.start; patt_start = c.args.patt_start; pattern = c.args.pattern } in
    let valid : valid_calendar plan ≡ Ok c.in-Ok.calendar = sym c.make.ensures ∙ c.in-Ok.is in
    let same : c.in-Ok.calendar ≡ plan = its_parts plan c.in-Ok.calendar valid in
    (ap (λ (x : CalendarPlan). defs.Calendar c.args.name x c.args.by) (c.in_ok-calendar-in-Ok.ensures.ok ∙ same), search rules, valid ∙ ap Ok same)
