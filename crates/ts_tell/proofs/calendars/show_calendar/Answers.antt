use Rattle.std.proofs.Common.{ap}
use Rattle.ts_model.specs.declared.kind.Kind.TheVariants.{Calendar}
use Rattle.ts_answer.specs.Answer.{outcome, carried_out, show_calendar}
use Rattle.ts_answer.specs.Reply.{calendar_lines}
use Rattle.ts_answer.proofs.CallerLemmas.{defined_by, goes, stops}
use Rattle.ts_define.proofs.PatternLemmas.{filled}
use Rattle.ts_tell.proofs.CalendarLemmas.{said_alone, text_found}
use Rattle.ts_tell.proofs.calendars.show_calendar.Goals as goal

pub text_in-requires-clause-filled : goal.text_in-requires-clause-filled
text_in-requires-clause-filled c = filled Calendar c.in_ok-slot.slot c.args.name.now c.args.defs.now.definitions c.in_ok-slot.ensures.found

pub returns-in_err-slot : goal.returns-in_err-slot
unfolding outcome carried_out show_calendar
returns-in_err-slot c space count free l held = stops _ c.in_err-slot.field-0.0 c.from_residual.ensures.1 (c.in_err-slot.ensures.tried count l (defined_by held))

pub returns : goal.returns
unfolding outcome carried_out show_calendar
returns c space count free l held =
    goes _ c.in_ok-slot.slot (c.in_ok-slot.ensures.tried count l (defined_by held)) (λ text there.
    said_alone l c.args.out.now c.say_calendar.new.out _ _ c.requires.empty c.in_ok-say_calendar.ensures.ok
    (ap calendar_lines (text_found c.args.defs.now.definitions space count free l c.args.name.now c.in_ok-slot.slot c.in_ok-text.text text held there c.in_ok-text.ensures)))
