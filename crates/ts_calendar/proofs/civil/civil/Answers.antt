use Rattle.std.proofs.Common.{◌≡◌, arith, ◌∙◌, ap}
use Rattle.jiff_core.specs.Calendar.{days_from_civil}
use Rattle.jiff_core.proofs.SignedLemmas.{signed_casts}
use Rattle.ts_base.proofs.CivilLemmas.{civil_of-date, civil}
use Rattle.ts_calendar.proofs.civil.civil.Goals as goal

pub overflow_cast-result : goal.overflow_cast-result
overflow_cast-result c =
    let d = c.in-Ok.date in
    let value : days_from_civil d.year d.month d.day ≡ c.args.day = c.in-Ok.ensures.value ∙ omega (arith, signed_casts) in
    let found = civil_of-date d.year d.month d.day c.args.day (d.year_in, d.month_in, d.day_in) value c.requires.0 in
    omega (arith, signed_casts, found.1)

pub returns-clause-civil : goal.returns-clause-civil
returns-clause-civil c =
    let d = c.in-Ok.date in
    let value : days_from_civil d.year d.month d.day ≡ c.args.day = c.in-Ok.ensures.value ∙ omega (arith, signed_casts) in
    let found = civil_of-date d.year d.month d.day c.args.day (d.year_in, d.month_in, d.day_in) value c.requires.0 in
    found.0 ∙ ap (λ y. civil y d.month d.day) (omega (arith, signed_casts, found.1))

pub returns-clause-year : goal.returns-clause-year
returns-clause-year c =
    let d = c.in-Ok.date in
    let value : days_from_civil d.year d.month d.day ≡ c.args.day = c.in-Ok.ensures.value ∙ omega (arith, signed_casts) in
    let found = civil_of-date d.year d.month d.day c.args.day (d.year_in, d.month_in, d.day_in) value c.requires.0 in
    let year = d.year_in in
    (omega (arith, signed_casts, found.1), omega (arith, signed_casts, found.1))
