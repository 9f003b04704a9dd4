use Rattle.std.proofs.Common.{ap}
use Rattle.ts_answer.specs.Answer.{outcome, carried_out, show_pattern}
use Rattle.ts_answer.specs.Reply.{pattern_lines}
use Rattle.ts_answer.proofs.CallerLemmas.{defined_by, goes, stops}
use Rattle.ts_tell.proofs.CalendarLemmas.{said_alone}
use Rattle.ts_tell.proofs.calendars.show_pattern.Goals as goal

pub returns-in_err-pattern : goal.returns-in_err-pattern
unfolding outcome carried_out show_pattern
returns-in_err-pattern c space count free l held = stops _ c.in_err-pattern.field-0.0 c.from_residual.ensures.1 (c.in_err-pattern.ensures count l (defined_by held))

pub returns : goal.returns
unfolding outcome carried_out show_pattern
returns c space count free l held =
    goes _ _ (c.in_ok-pattern.ensures count l (defined_by held)) (λ pattern same.
    said_alone l c.args.out.now c.say_pattern.new.out _ _ c.requires.empty c.in_ok-say_pattern.ensures.ok (ap pattern_lines same))
