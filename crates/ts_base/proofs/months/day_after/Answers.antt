use Rattle.std.proofs.Common.{◌≡◌, ◌≤◌, pos, arith, to_z, of_z, w64, w32, unsigned_abs, ◌∙◌, sym, ap, Some}
use Rattle.jiff_core.specs.Calendar.{days_from_civil}
use Rattle.jiff_core.proofs.SignedLemmas.{signed_casts}
use Rattle.jiff_span.specs.Months.{add_months}
use Rattle.ts_base.specs.Moment.{Civil, days_after}
use Rattle.ts_base.proofs.CivilLemmas.{civil_of-date, civil, days_bounds, natural}
use Rattle.ts_base.proofs.MonthLemmas.{far, moved_not, moved_low, moved_to}
use Rattle.ts_base.proofs.months.day_after.Goals as goal

pub returns-then-unsigned_abs-gt200000-clause-value : goal.returns-then-unsigned_abs-gt200000-clause-value
returns-then-unsigned_abs-gt200000-clause-value c =
    let d = c.in-Ok.date in
    let value : days_from_civil d.year d.month d.day ≡ c.args.day = c.in-Ok.ensures.value ∙ omega (arith, signed_casts) in
    let found = civil_of-date d.year d.month d.day c.args.day (d.year_in, d.month_in, d.day_in) value c.requires.day.0 in
    let year = d.year_in in
    let y : d.year ≡ pos (unsigned_abs d.year) = natural d.year found.1 in
    let away = far (civil (unsigned_abs d.year) d.month d.day) c.args.months (omega (arith, signed_casts, found.1)) d.month_in.1
    (omega (arith, signed_casts, c.unsigned_abs.ensures.value, c.if-unsigned_abs-gt200000.true)) in
    sym (ap (λ x. days_after x c.args.months) found.0 ∙ away)

pub returns-in_default-add_months-clause-value : goal.returns-in_default-add_months-clause-value
returns-in_default-add_months-clause-value c =
    let d = c.in-Ok.date in
    let value : days_from_civil d.year d.month d.day ≡ c.args.day = c.in-Ok.ensures.value ∙ omega (arith, signed_casts) in
    let found = civil_of-date d.year d.month d.day c.args.day (d.year_in, d.month_in, d.day_in) value c.requires.day.0 in
    let k = to_z w32 (of_z w32 (to_z w64 (of_z w64 c.args.months))) in
    let same : k ≡ c.args.months = omega (arith, signed_casts, c.unsigned_abs.ensures.value, c.if-unsigned_abs-gt200000.false) in
    let refused = moved_not d k found.1 (λ s. let yes = c.in_default-add_months.ensures.succeeds.1 s in absurd (cc)) in
    sym (ap (λ x. days_after x c.args.months) found.0 ∙ ap (days_after (civil (unsigned_abs d.year) d.month d.day)) (sym same) ∙ refused)

pub returns-then-moved-lt1-clause-value : goal.returns-then-moved-lt1-clause-value
returns-then-moved-lt1-clause-value c =
    let d = c.in-Ok.date in
    let value : days_from_civil d.year d.month d.day ≡ c.args.day = c.in-Ok.ensures.value ∙ omega (arith, signed_casts) in
    let found = civil_of-date d.year d.month d.day c.args.day (d.year_in, d.month_in, d.day_in) value c.requires.day.0 in
    let k = to_z w32 (of_z w32 (to_z w64 (of_z w64 c.args.months))) in
    let same : k ≡ c.args.months = omega (arith, signed_casts, c.unsigned_abs.ensures.value, c.if-unsigned_abs-gt200000.false) in
    let e = c.in-Ok-add_months.moved in
    let before = moved_low d e k found.1 c.in-Ok-add_months.ensures.month (omega (arith, signed_casts, c.if-moved-lt1.true)) in
    sym (ap (λ x. days_after x c.args.months) found.0 ∙ ap (days_after (civil (unsigned_abs d.year) d.month d.day)) (sym same) ∙ before)

pub returns-clause-value : goal.returns-clause-value
returns-clause-value c =
    let d = c.in-Ok.date in
    let value : days_from_civil d.year d.month d.day ≡ c.args.day = c.in-Ok.ensures.value ∙ omega (arith, signed_casts) in
    let found = civil_of-date d.year d.month d.day c.args.day (d.year_in, d.month_in, d.day_in) value c.requires.day.0 in
    let k = to_z w32 (of_z w32 (to_z w64 (of_z w64 c.args.months))) in
    let same : k ≡ c.args.months = omega (arith, signed_casts, c.unsigned_abs.ensures.value, c.if-unsigned_abs-gt200000.false) in
    let e = c.in-Ok-add_months.moved in
    let early : d.day ≤ 28 = rw (ap (λ (x : Civil). x.day) found.0) at c.requires.early in
    let there = moved_to d e k found.1 c.in-Ok-add_months.ensures.month early (omega (arith, signed_casts, c.if-moved-lt1.false)) in
    let out : to_z w64 (of_z w64 (to_z w32 (of_z w32 c.to_unix_epoch_day.result))) ≡ add_months d k =
    omega (arith, signed_casts) ∙ c.to_unix_epoch_day.ensures.value ∙ c.in-Ok-add_months.ensures.value in
    ap Some out ∙ sym (ap (λ x. days_after x c.args.months) found.0 ∙ ap (days_after (civil (unsigned_abs d.year) d.month d.day)) (sym same) ∙ there)

pub returns-clause-bounds : goal.returns-clause-bounds
returns-clause-bounds c =
    let e = c.in-Ok-add_months.moved in
    let b = days_bounds e.year e.month e.day (e.year_in, e.month_in, e.day_in) (omega (arith, signed_casts, c.if-moved-lt1.false)) in
    (omega (arith, signed_casts, b.0, c.to_unix_epoch_day.ensures.value), omega (arith, signed_casts, b.1, c.to_unix_epoch_day.ensures.value))
