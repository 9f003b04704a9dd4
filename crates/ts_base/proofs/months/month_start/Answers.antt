use Rattle.std.proofs.Common.{◌≡◌, pos, ℤ, ◌+ℤ◌, ◌*ℤ◌, arith, to_z, of_z, w64, ◌∙◌, refl, ap, Some, Option}
use Rattle.std.specs.Option.{option_map}
use Rattle.jiff_core.proofs.SignedLemmas.{signed_casts}
use Rattle.ts_base.specs.Moment.{civil_of, day_of, clock_of, days_after, months_after}
use Rattle.ts_base.proofs.months.month_start.Goals as goal

-- the stamp of a day at the time of another stamp
abbrev at_clock : ℤ → Option ℤ → Option ℤ
at_clock t = option_map (λ day. day *ℤ pos 8_640_000_000 +ℤ pos (clock_of t))

at_months_after : (t months : ℤ) → at_clock t (days_after (civil_of (day_of t)) months) ≡ months_after t months
unfolding months_after
at_months_after t months = refl

pub returns-in-None : goal.returns-in-None
returns-in-None c =
    let t = c.args.first in
    let day : to_z w64 (of_z w64 c.day.result) ≡ day_of t = omega (arith, signed_casts) ∙ c.day.ensures.value in
    let months : to_z w64 (of_z w64 c.args.months) ≡ c.args.months = omega (arith, signed_casts) in
    ap (at_clock t) (c.in-None.ensures.value ∙ ap (λ d. days_after (civil_of d) (to_z w64 (of_z w64 c.args.months))) day ∙ ap (days_after (civil_of (day_of t))) months) ∙ at_months_after t c.args.months

pub returns-in-Some : goal.returns-in-Some
returns-in-Some c =
    let t = c.args.first in
    let day : to_z w64 (of_z w64 c.day.result) ≡ day_of t = omega (arith, signed_casts) ∙ c.day.ensures.value in
    let months : to_z w64 (of_z w64 c.args.months) ≡ c.args.months = omega (arith, signed_casts) in
    let made : c.of_day.result ≡ c.in-Some.day *ℤ pos 8_640_000_000 +ℤ pos (clock_of t) = omega (arith, signed_casts, c.of_day.ensures, c.clock.ensures.value, c.in-Some.ensures.bounds.0, c.in-Some.ensures.bounds.1) in
    ap Some made ∙ ap (at_clock t) (c.in-Some.ensures.value ∙ ap (λ d. days_after (civil_of d) (to_z w64 (of_z w64 c.args.months))) day ∙ ap (days_after (civil_of (day_of t))) months) ∙ at_months_after t c.args.months
