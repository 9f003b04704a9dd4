use Rattle.std.proofs.Common.{◌∙◌, sym, ap, to_z, of_z, w64, to_z-of_z, FitsSigned, rules}
use Rattle.ts_calendar.specs.Calendars.{starts_at}
use Rattle.ts_calendar.proofs.StepLemmas.{steps-some, steps-none}
use Rattle.ts_calendar.proofs.steps.steps_between.Goals as goal

pub returns-then-starts_at-clause-value : goal.returns-then-starts_at-clause-value
returns-then-starts_at-clause-value c =
    let e = c.interval_around-k.ensures in
    let k = to_z w64 (of_z w64 c.interval_around-k.result) in
    let fits : FitsSigned w64 c.interval_around-k.result = search rules in
    let here = sym (ap (starts_at c.args.to) c.start_in.ensures) ∙ sym c.starts_at.ensures ∙ c.if-starts_at.true in
    sym (steps-some c.args.unit c.args.from.now c.args.to k e.stamps.0 c.requires (rw (to_z-of_z fits) e.around) (rw (to_z-of_z fits) e.near.0) here)

pub returns-else-starts_at-clause-value : goal.returns-else-starts_at-clause-value
returns-else-starts_at-clause-value c =
    let e = c.interval_around-k.ensures in
    let k = to_z w64 (of_z w64 c.interval_around-k.result) in
    let fits : FitsSigned w64 c.interval_around-k.result = search rules in
    let here = sym (ap (starts_at c.args.to) c.start_in.ensures) ∙ sym c.starts_at.ensures ∙ c.if-starts_at.false in
    sym (steps-none c.args.unit c.args.from.now c.args.to k e.stamps.0 c.requires (rw (to_z-of_z fits) e.around) here)
