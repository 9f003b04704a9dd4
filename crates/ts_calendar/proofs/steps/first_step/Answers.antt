use Rattle.std.proofs.Common.{◌≡◌, ◌∙◌, sym, ap, arith, pos, ◌+ℤ◌, to_z, of_z, w64, to_z-of_z, FitsSigned, rules}
use Rattle.jiff_core.proofs.SignedLemmas.{signed_casts}
use Rattle.std.proofs.Common.{Some}
use Rattle.std.specs.Prelude.{is_some}
use Rattle.ts_calendar.specs.Calendars.{start_in, starts_at}
use Rattle.ts_calendar.proofs.StepLemmas.{first-here, first-next, first-none}
use Rattle.ts_calendar.proofs.steps.first_step.Goals as goal

pub returns-then-starts_at-clause-value : goal.returns-then-starts_at-clause-value
returns-then-starts_at-clause-value c =
    let e = c.interval_around-k.ensures in
    let k = to_z w64 (of_z w64 c.interval_around-k.result) in
    let fits : FitsSigned w64 c.interval_around-k.result = search rules in
    let here = sym (ap (starts_at c.args.start) c.start_in.ensures) ∙ sym c.starts_at.ensures ∙ c.if-starts_at.true in
    sym (first-here c.args.unit c.args.from.now c.args.start k e.stamps.0 c.requires (rw (to_z-of_z fits) e.around) (rw (to_z-of_z fits) e.near.0) here)

pub returns-then-is_some-clause-value : goal.returns-then-is_some-clause-value
returns-then-is_some-clause-value c =
    let e = c.interval_around-k.ensures in
    let k = to_z w64 (of_z w64 c.interval_around-k.result) in
    let fits : FitsSigned w64 c.interval_around-k.result = search rules in
    let next : to_z w64 (of_z w64 (k +ℤ pos 1)) ≡ k +ℤ pos 1 = omega (arith, signed_casts, e.near) in
    let here = sym (ap (starts_at c.args.start) c.start_in.ensures) ∙ sym c.starts_at.ensures ∙ c.if-starts_at.false in
    let there = ap (λ j. is_some (start_in c.args.unit c.args.from.now j)) (sym next) ∙ sym (ap is_some c.start_in-2.ensures) ∙ sym c.is_some.ensures ∙ c.if-is_some.true in
    ap Some next ∙ sym (first-next c.args.unit c.args.from.now c.args.start k e.stamps.0 c.requires (rw (to_z-of_z fits) e.around) (rw (to_z-of_z fits) e.near.1) here there)

pub returns-else-is_some-clause-value : goal.returns-else-is_some-clause-value
returns-else-is_some-clause-value c =
    let e = c.interval_around-k.ensures in
    let k = to_z w64 (of_z w64 c.interval_around-k.result) in
    let fits : FitsSigned w64 c.interval_around-k.result = search rules in
    let next : to_z w64 (of_z w64 (k +ℤ pos 1)) ≡ k +ℤ pos 1 = omega (arith, signed_casts, e.near) in
    let here = sym (ap (starts_at c.args.start) c.start_in.ensures) ∙ sym c.starts_at.ensures ∙ c.if-starts_at.false in
    let there = ap (λ j. is_some (start_in c.args.unit c.args.from.now j)) (sym next) ∙ sym (ap is_some c.start_in-2.ensures) ∙ sym c.is_some.ensures ∙ c.if-is_some.false in
    sym (first-none c.args.unit c.args.from.now c.args.start k e.stamps.0 e.stamps.1 c.requires (rw (to_z-of_z fits) e.around) here there)
