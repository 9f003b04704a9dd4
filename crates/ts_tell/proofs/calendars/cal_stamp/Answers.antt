use Rattle.std.proofs.Common.{◌≡◌, ℤ, None, w64, unsigned_abs, ap, sym, refl, rules, ◌∙◌}
use Rattle.std.proofs.lemmas.Int.{to_z-of_z}
use Rattle.ts_base.specs.declared.refusal.Refusal.TheVariants.{PastEnd}
use Rattle.ts_base.specs.declared.fault.Trouble.TheVariants.{Refused}
use Rattle.ts_offset.specs.Grid.{cal_stamp}
use Rattle.ts_answer.specs.Answer.{outcome, carried_out, find_start}
use Rattle.ts_answer.specs.Reply.{stamp_line}
use Rattle.ts_answer.proofs.CallerLemmas.{defined_by, goes, stops, stamp_there, stamp_past}
use Rattle.ts_define.proofs.PatternLemmas.{found}
use Rattle.ts_tell.proofs.CalendarLemmas.{said_alone}
use Rattle.ts_tell.proofs.calendars.cal_stamp.Goals as goal

pub returns-in_err-counter : goal.returns-in_err-counter
unfolding outcome carried_out find_start
returns-in_err-counter c space count free l held = stops _ c.in_err-counter.field-0.0 c.from_residual.ensures.1 (c.in_err-counter.ensures count l (defined_by held))

pub returns-in_default : goal.returns-in_default
unfolding outcome carried_out find_start
returns-in_default c space count free l held =
    let number = ap (λ (n : ℤ). cal_stamp c.in_ok-counter.counter.now c.args.after (unsigned_abs n)) (to_z-of_z w64 c.args.count c.ranges.count) in
    let none : c.cal_stamp.result ≡ None = search rules in
    found (λ x. x.now) _ c.in_ok-counter.counter (c.in_ok-counter.ensures count l (defined_by held))
    (stops _ (Refused PastEnd) refl (stamp_past _ (sym number ∙ sym c.cal_stamp.ensures.value ∙ none)))

pub returns : goal.returns
unfolding outcome carried_out find_start
returns c space count free l held =
    let number = ap (λ (n : ℤ). cal_stamp c.in_ok-counter.counter.now c.args.after (unsigned_abs n)) (to_z-of_z w64 c.args.count c.ranges.count) in
    found (λ x. x.now) _ c.in_ok-counter.counter (c.in_ok-counter.ensures count l (defined_by held))
    (goes _ c.in-Some.stamp (stamp_there _ c.in-Some.stamp (sym number ∙ sym c.in-Some.ensures.value)) (λ stamp is.
    said_alone l c.args.out.now c.say_stamp.new.out _ _ c.requires.empty c.in_ok-say_stamp.ensures.ok (ap stamp_line is)))
