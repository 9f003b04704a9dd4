use Rattle.std.proofs.Common.{ℕ, Some, None, sym, ap, ◌∙◌, ◌≡◌}
use Rattle.std.specs.Option.{option_map}
use Rattle.std.proofs.lemmas.Result.{IfOk-weaker}
use Rattle.ts_calendar.specs.Calendars.{CalendarPlan}
use Rattle.ts_model.specs.Definitions.{PatternDef, at_slot}
use Rattle.ts_slots.specs.declared.slot.Written.TheVariants.{Form}
use Rattle.ts_container.specs.Reading.{Completes, Makes}
use Rattle.ts_container.proofs.CompleteLemmas.{completed}
use Rattle.ts_container.proofs.complete.complete_calendar.Goals as goal

pub returns-in-Own : goal.returns-in-Own
returns-in-Own c =
    let form = c.args.form in
    let plan : CalendarPlan = record { start = form.start; patt_start = form.patt_start; pattern = c.in-Own.pattern } in
    IfOk-weaker c.make.result (Makes form.name plan None) (Completes c.args.defs.now.definitions (Form form))
    (λ r made. completed c.args.defs.now.definitions form form.name plan None r made
    (λ i. record { name = form.name; start = form.start; patt_start = form.patt_start; part = c.in-Own.is i }) (λ slot by. absurd (cc)))
    c.make.ensures

pub returns-in-Some : goal.returns-in-Some
returns-in-Some c =
    let form = c.args.form in
    let plan : CalendarPlan = record { start = form.start; patt_start = form.patt_start; pattern = c.in-Some.pattern } in
    let patterns = c.args.defs.now.definitions.patterns in
    let found = sym c.in_ok-pattern-in-By.ensures ∙ c.in-Some.is in
    IfOk-weaker c.make-in-Some.result (Makes form.name plan (Some c.in-By.slot)) (Completes c.args.defs.now.definitions (Form form))
    (λ r made. completed c.args.defs.now.definitions form form.name plan (Some c.in-By.slot) r made
    (λ i. record { name = form.name; start = form.start; patt_start = form.patt_start; part = c.in-By.is i })
    (λ slot by.
    let same : slot ≡ c.in-By.slot = cc in
    ap (λ (n : ℕ). option_map (λ (p : PatternDef). p.pattern) (at_slot n patterns)) same ∙ found))
    c.make-in-Some.ensures
