use Rattle.std.proofs.Common.{Global, ap, ◌∙◌}
use Rattle.ts_answer.specs.Answer.{outcome, carried_out, list_starts}
use Rattle.ts_answer.specs.Reply.{stamps_text}
use Rattle.ts_answer.proofs.CallerLemmas.{defined_by, goes, stops, answered_list}
use Rattle.ts_define.proofs.PatternLemmas.{found}
use Rattle.ts_tell.proofs.CalendarLemmas.{said_alone}
use Rattle.ts_tell.proofs.calendars.cal_range.Goals as goal

pub returns-in_err-counter : goal.returns-in_err-counter
unfolding outcome carried_out list_starts
returns-in_err-counter c space count free l held = stops _ c.in_err-counter.field-0.0 c.from_residual.ensures.1 (c.in_err-counter.ensures count l (defined_by held))

pub returns-in_err-starts : goal.returns-in_err-starts
unfolding outcome carried_out list_starts
returns-in_err-starts c space count free l held =
    found (λ x. x.now) _ c.in_ok-counter.counter (c.in_ok-counter.ensures count l (defined_by held))
    (stops _ c.in_err-starts.field-0.0 c.from_residual-in_err-starts.ensures.1 (answered_list {A = Global} _ _ c.in_err-starts.ensures))

pub returns : goal.returns
unfolding outcome carried_out list_starts
returns c space count free l held =
    found (λ x. x.now) _ c.in_ok-counter.counter (c.in_ok-counter.ensures count l (defined_by held))
    (goes _ c.in_ok-starts.starts (answered_list {A = Global} _ _ c.in_ok-starts.ensures) (λ starts is.
    said_alone l c.args.out.now c.say_stamps.new.out _ _ c.requires.empty c.in_ok-say_stamps.ensures.ok (ap stamps_text (c.deref.ensures.value ∙ is))))
