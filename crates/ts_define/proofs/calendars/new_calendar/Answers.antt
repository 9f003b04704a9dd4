use Rattle.std.proofs.Common.{ℕ, Option, refl, ap, sym, ◌∙◌, subst}
use Rattle.ts_pattern.specs.Patterns.{Plan}
use Rattle.ts_calendar.specs.Calendars.{CalendarPlan, read_calendar, calendar_text}
use Rattle.ts_calendar.specs.declared.text.CalendarText.{CalendarText}
use Rattle.ts_model.specs.declared.kind.Kind.TheVariants.{Calendar}
use Rattle.ts_model.specs.Catalogue.{with_plan}
use Rattle.ts_answer.specs.Answer.{outcome, carried_out, create_calendar}
use Rattle.ts_answer.proofs.CallerLemmas.{goes, stops, on_err, tried_ok, tried_err}
use Rattle.ts_define.specs.Patterns.{IsPatternBy, IsMade}
use Rattle.ts_define.proofs.PatternLemmas.{found, read_of, valid_is}
use Rattle.ts_define.proofs.calendars.new_calendar.Goals as goal

pub returns-in_err-read-clause-decision : goal.returns-in_err-read-clause-decision
unfolding outcome carried_out create_calendar
returns-in_err-read-clause-decision c count l by = stops _ c.in_err-read.field-0.0 c.from_residual.ensures.1 (read_of read_calendar _ _ _ c.as_slice.ensures c.in_err-read.ensures)

pub returns-in_err-pattern-clause-decision : goal.returns-in_err-pattern-clause-decision
unfolding outcome carried_out create_calendar
returns-in_err-pattern-clause-decision c count l by =
    found (λ x. x) _ c.in_ok-read.read (read_of read_calendar _ _ _ c.as_slice.ensures c.in_ok-read.ensures) (stops _ c.in_err-pattern.field-0.0 c.from_residual-in_err-pattern.ensures.1 (c.in_err-pattern.ensures count l by))

pub returns-in_err-slot-clause-decision : goal.returns-in_err-slot-clause-decision
unfolding outcome carried_out create_calendar
returns-in_err-slot-clause-decision c count l by =
    found (λ x. x) _ c.in_ok-read.read (read_of read_calendar _ _ _ c.as_slice.ensures c.in_ok-read.ensures) (goes _ (c.in_ok-pattern.pattern, c.in_ok-pattern.by) (c.in_ok-pattern.ensures count l by)
    (λ pattern given. stops _ c.in_err-slot.field-0.0 c.from_residual-in_err-slot.ensures.1 (c.in_err-slot.ensures.tried count l by)))

pub returns-in-Err-clause-decision : goal.returns-in-Err-clause-decision
unfolding outcome carried_out create_calendar
returns-in-Err-clause-decision c count l by =
    let tried = (c.in_ok-pattern.ensures count l by).ok in
    found (λ x. x) _ c.in_ok-read.read (read_of read_calendar _ _ _ c.as_slice.ensures c.in_ok-read.ensures) (found (λ (x : Plan × Option ℕ). x.0) _ (c.in_ok-pattern.pattern, c.in_ok-pattern.by) (tried_ok _ tried.0 tried.1 tried.2.same)
    (goes _ c.in_ok-slot.slot (c.in_ok-slot.ensures.tried count l by) (λ new free. tried_err c.in-Err.why (on_err _ c.in-Err.why _ (sym c.in-Err.ensures)))))

pub returns-clause-decision : goal.returns-clause-decision
unfolding outcome carried_out create_calendar
returns-clause-decision c count l by =
    let read = c.in_ok-read.read in
    let calendar = c.in-Ok.calendar in
    let slot = c.in_ok-pattern.by in
    let name = c.args.name.now in
    let tried = (c.in_ok-pattern.ensures count l by).ok in
    let made = valid_is (with_plan read c.in_ok-pattern.pattern) calendar (sym c.in-Ok.ensures) in
    let pattern = ap (λ (x : CalendarPlan). x.pattern) made in
    let text = tried.2.text (record { name = name; calendar = calendar; by = slot }) pattern refl ∙ ap (λ (x : CalendarPlan). calendar_text x.start x.patt_start read.part) made in
    found (λ x. x) _ read (read_of read_calendar _ _ _ c.as_slice.ensures c.in_ok-read.ensures) (found (λ (x : Plan × Option ℕ). x.0) _ (c.in_ok-pattern.pattern, slot) (tried_ok _ tried.0 tried.1 tried.2.same)
    (goes _ c.in_ok-slot.slot (c.in_ok-slot.ensures.tried count l by) (λ new free. found (λ x. x) _ calendar (tried_ok calendar calendar (sym c.in-Ok.ensures) refl)
    (subst (λ (t : CalendarText). IsMade Calendar name t l c.calendar_in.result) text
    (c.calendar_in.ensures.made l by.rules by.filled free (subst (λ (p : Plan). IsPatternBy slot p l.definitions) (sym pattern) tried.2.by))))))

pub returns-clause-fits : goal.returns-clause-fits
returns-clause-fits c = c.calendar_in.ensures.fits c.args.defs.now.definitions c.in_ok-slot.ensures.free
