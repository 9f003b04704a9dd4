use Rattle.std.proofs.Common.{◌≡◌, to_z, of_z, w64, arith, ap, ◌∙◌}
use Rattle.std.proofs.lemmas.Int.{ints}
use Rattle.ts_answer.specs.Answer.{outcome, carried_out, count_starts}
use Rattle.ts_answer.specs.Reply.{number_line}
use Rattle.ts_answer.proofs.CallerLemmas.{defined_by, stops}
use Rattle.ts_define.proofs.PatternLemmas.{found}
use Rattle.ts_tell.proofs.CalendarLemmas.{said_alone}
use Rattle.ts_tell.proofs.calendars.cal_index.Goals as goal

pub returns-in_err-counter : goal.returns-in_err-counter
unfolding outcome carried_out count_starts
returns-in_err-counter c space count free l held = stops _ c.in_err-counter.field-0.0 c.from_residual.ensures.1 (c.in_err-counter.ensures count l (defined_by held))

pub returns : goal.returns
unfolding outcome carried_out count_starts
returns c space count free l held =
    let counted : to_z w64 (of_z w64 c.cal_index.result) ≡ c.cal_index.result = omega (arith, ints) in
    found (λ x. x.now) _ c.in_ok-counter.counter (c.in_ok-counter.ensures count l (defined_by held))
    (said_alone l c.args.out.now c.say_signed.new.out _ _ c.requires.empty c.in_ok-say_signed.ensures.ok (ap number_line (counted ∙ c.cal_index.ensures)))
