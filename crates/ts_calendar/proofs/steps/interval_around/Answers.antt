use Rattle.std.proofs.Common.{◌≡◌, ◌∙◌, ap, arith, pos, ◌-ℤ◌, to_z, of_z, w64, to_z-of_z, FitsSigned, rules}
use Rattle.std.specs.Int.{int_div_euclid}
use Rattle.jiff_core.proofs.SignedLemmas.{signed_casts}
use Rattle.ts_calendar.proofs.LineLemmas.{around-second, around-minute, around-hour, around-day, around-week}
use Rattle.ts_calendar.proofs.StepLemmas.{near-next}
use Rattle.ts_calendar.proofs.steps.interval_around.Goals as goal

pub returns-in-Second-clause-around : goal.returns-in-Second-clause-around
returns-in-Second-clause-around c =
    let diff : to_z w64 (of_z w64 (to_z w64 (of_z w64 c.units_of.result) -ℤ to_z w64 (of_z w64 c.units.result))) ≡ c.args.stamp -ℤ c.args.first.now =
    omega (arith, signed_casts, c.units_of.ensures.value, c.units_of.ensures.within, c.units.ensures.value, c.units.ensures.within) in
    let fits : FitsSigned w64 c.div_euclid.result = search rules in
    let k : to_z w64 (of_z w64 c.div_euclid.result) ≡ int_div_euclid (c.args.stamp -ℤ c.args.first.now) (pos 100_000) =
    to_z-of_z fits ∙ c.div_euclid.ensures ∙ ap (λ d. int_div_euclid d (pos 100_000)) diff in
    rw (c.in-Second.is, k) (around-second c.args.first.now c.args.stamp)

pub returns-in-Minute-clause-around : goal.returns-in-Minute-clause-around
returns-in-Minute-clause-around c =
    let diff : to_z w64 (of_z w64 (to_z w64 (of_z w64 c.units_of.result) -ℤ to_z w64 (of_z w64 c.units.result))) ≡ c.args.stamp -ℤ c.args.first.now =
    omega (arith, signed_casts, c.units_of.ensures.value, c.units_of.ensures.within, c.units.ensures.value, c.units.ensures.within) in
    let fits : FitsSigned w64 c.div_euclid-in-Minute.result = search rules in
    let k : to_z w64 (of_z w64 c.div_euclid-in-Minute.result) ≡ int_div_euclid (c.args.stamp -ℤ c.args.first.now) (pos 6_000_000) =
    to_z-of_z fits ∙ c.div_euclid-in-Minute.ensures ∙ ap (λ d. int_div_euclid d (pos 6_000_000)) diff in
    rw (c.in-Minute.is, k) (around-minute c.args.first.now c.args.stamp)

pub returns-in-Hour-clause-around : goal.returns-in-Hour-clause-around
returns-in-Hour-clause-around c =
    let diff : to_z w64 (of_z w64 (to_z w64 (of_z w64 c.units_of.result) -ℤ to_z w64 (of_z w64 c.units.result))) ≡ c.args.stamp -ℤ c.args.first.now =
    omega (arith, signed_casts, c.units_of.ensures.value, c.units_of.ensures.within, c.units.ensures.value, c.units.ensures.within) in
    let fits : FitsSigned w64 c.div_euclid-in-Hour.result = search rules in
    let k : to_z w64 (of_z w64 c.div_euclid-in-Hour.result) ≡ int_div_euclid (c.args.stamp -ℤ c.args.first.now) (pos 360_000_000) =
    to_z-of_z fits ∙ c.div_euclid-in-Hour.ensures ∙ ap (λ d. int_div_euclid d (pos 360_000_000)) diff in
    rw (c.in-Hour.is, k) (around-hour c.args.first.now c.args.stamp)

pub returns-in-Day-clause-around : goal.returns-in-Day-clause-around
returns-in-Day-clause-around c =
    let diff : to_z w64 (of_z w64 (to_z w64 (of_z w64 c.units_of.result) -ℤ to_z w64 (of_z w64 c.units.result))) ≡ c.args.stamp -ℤ c.args.first.now =
    omega (arith, signed_casts, c.units_of.ensures.value, c.units_of.ensures.within, c.units.ensures.value, c.units.ensures.within) in
    let fits : FitsSigned w64 c.div_euclid-in-Day.result = search rules in
    let k : to_z w64 (of_z w64 c.div_euclid-in-Day.result) ≡ int_div_euclid (c.args.stamp -ℤ c.args.first.now) (pos 8_640_000_000) =
    to_z-of_z fits ∙ c.div_euclid-in-Day.ensures ∙ ap (λ d. int_div_euclid d (pos 8_640_000_000)) diff in
    rw (c.in-Day.is, k) (around-day c.args.first.now c.args.stamp)

pub returns-in-Week-clause-around : goal.returns-in-Week-clause-around
returns-in-Week-clause-around c =
    let diff : to_z w64 (of_z w64 (to_z w64 (of_z w64 c.units_of.result) -ℤ to_z w64 (of_z w64 c.units.result))) ≡ c.args.stamp -ℤ c.args.first.now =
    omega (arith, signed_casts, c.units_of.ensures.value, c.units_of.ensures.within, c.units.ensures.value, c.units.ensures.within) in
    let fits : FitsSigned w64 c.div_euclid-in-Week.result = search rules in
    let k : to_z w64 (of_z w64 c.div_euclid-in-Week.result) ≡ int_div_euclid (c.args.stamp -ℤ c.args.first.now) (pos 60_480_000_000) =
    to_z-of_z fits ∙ c.div_euclid-in-Week.ensures ∙ ap (λ d. int_div_euclid d (pos 60_480_000_000)) diff in
    rw (c.in-Week.is, k) (around-week c.args.first.now c.args.stamp)

pub returns-in-Second-clause-near : goal.returns-in-Second-clause-near
returns-in-Second-clause-near c =
    near-next (to_z w64 (of_z w64 c.div_euclid.result))
    (omega (arith, signed_casts, c.div_euclid.ensures, c.units_of.ensures.value, c.units_of.ensures.within, c.units.ensures.value, c.units.ensures.within))
    (omega (arith, signed_casts, c.div_euclid.ensures, c.units_of.ensures.value, c.units_of.ensures.within, c.units.ensures.value, c.units.ensures.within))

pub returns-in-Minute-clause-near : goal.returns-in-Minute-clause-near
returns-in-Minute-clause-near c =
    near-next (to_z w64 (of_z w64 c.div_euclid-in-Minute.result))
    (omega (arith, signed_casts, c.div_euclid-in-Minute.ensures, c.units_of.ensures.value, c.units_of.ensures.within, c.units.ensures.value, c.units.ensures.within))
    (omega (arith, signed_casts, c.div_euclid-in-Minute.ensures, c.units_of.ensures.value, c.units_of.ensures.within, c.units.ensures.value, c.units.ensures.within))

pub returns-in-Hour-clause-near : goal.returns-in-Hour-clause-near
returns-in-Hour-clause-near c =
    near-next (to_z w64 (of_z w64 c.div_euclid-in-Hour.result))
    (omega (arith, signed_casts, c.div_euclid-in-Hour.ensures, c.units_of.ensures.value, c.units_of.ensures.within, c.units.ensures.value, c.units.ensures.within))
    (omega (arith, signed_casts, c.div_euclid-in-Hour.ensures, c.units_of.ensures.value, c.units_of.ensures.within, c.units.ensures.value, c.units.ensures.within))

pub returns-in-Day-clause-near : goal.returns-in-Day-clause-near
returns-in-Day-clause-near c =
    near-next (to_z w64 (of_z w64 c.div_euclid-in-Day.result))
    (omega (arith, signed_casts, c.div_euclid-in-Day.ensures, c.units_of.ensures.value, c.units_of.ensures.within, c.units.ensures.value, c.units.ensures.within))
    (omega (arith, signed_casts, c.div_euclid-in-Day.ensures, c.units_of.ensures.value, c.units_of.ensures.within, c.units.ensures.value, c.units.ensures.within))

pub returns-in-Week-clause-near : goal.returns-in-Week-clause-near
returns-in-Week-clause-near c =
    near-next (to_z w64 (of_z w64 c.div_euclid-in-Week.result))
    (omega (arith, signed_casts, c.div_euclid-in-Week.ensures, c.units_of.ensures.value, c.units_of.ensures.within, c.units.ensures.value, c.units.ensures.within))
    (omega (arith, signed_casts, c.div_euclid-in-Week.ensures, c.units_of.ensures.value, c.units_of.ensures.within, c.units.ensures.value, c.units.ensures.within))
