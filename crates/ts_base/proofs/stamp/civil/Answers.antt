use Rattle.std.proofs.Common.{◌≡◌, pos, arith, to_z, of_z, w16, refl, unsigned_abs, ◌∙◌, sym, ap}
use Rattle.jiff_core.specs.Calendar.{days_from_civil}
use Rattle.jiff_core.proofs.SignedLemmas.{signed_casts}
use Rattle.ts_base.proofs.CivilLemmas.{civil_of-date, civil, same_parts}
use Rattle.ts_base.proofs.stamp.civil.Goals as goal

pub overflow_cast-result : goal.overflow_cast-result
overflow_cast-result c =
    let d = c.in-Ok.date in
    let value : days_from_civil d.year d.month d.day ≡ c.args.day = c.in-Ok.ensures.value ∙ omega (arith, signed_casts) in
    let low = c.requires.0 in
    let found = civil_of-date d.year d.month d.day c.args.day (d.year_in, d.month_in, d.day_in) value low in
    omega (arith, signed_casts, found.1)

pub returns : goal.returns
returns c =
    let d = c.in-Ok.date in
    let value : days_from_civil d.year d.month d.day ≡ c.args.day = c.in-Ok.ensures.value ∙ omega (arith, signed_casts) in
    let low = c.requires.0 in
    let found = civil_of-date d.year d.month d.day c.args.day (d.year_in, d.month_in, d.day_in) value low in
    let year : d.year ≡ pos (unsigned_abs (to_z w16 (of_z w16 d.year))) = omega (arith, signed_casts, found.1) in
    let same = same_parts d.year _ d.month d.month d.day d.day year refl refl (d.year_in, d.month_in, d.day_in) in
    record {
      civil = found.0 ∙ ap (λ y. civil y d.month d.day) (omega (arith, signed_casts, found.1));
      valid = same.0;
      year = omega (arith, signed_casts, found.1);
      number = sym same.1 ∙ value;
    }
