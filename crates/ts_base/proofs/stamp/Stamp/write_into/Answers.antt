use Rattle.std.proofs.Common.{Some, ◌≡◌, pos, arith, to_z, of_z, w64, unsigned_abs, ◌∙◌, sym, ap}
use Rattle.std.specs.Int.{int_div_euclid, int_rem_euclid}
use Rattle.jiff_core.proofs.SignedLemmas.{signed_casts}
use Rattle.ts_base.specs.Moment.{civil_of, day_of, clock_of, stamp_text, text_of, read_stamp}
use Rattle.ts_base.proofs.CivilLemmas.{civil}
use Rattle.ts_base.proofs.RoundTrip.{read_stamp-text, units_back}
use Rattle.ts_base.proofs.stamp.Stamp.write_into.Goals as goal

pub returns-clause-text : goal.returns-clause-text
unfolding stamp_text
returns-clause-text c =
    let t = c.args.self.now in
    let units : to_z w64 (of_z w64 c.self.inside.units) ≡ t = omega (arith, signed_casts, c.self.view_is, c.self.invariant) in
    let day : to_z w64 (of_z w64 c.div_euclid.result) ≡ day_of t = omega (arith, signed_casts) ∙ c.div_euclid.ensures ∙ ap (λ u. int_div_euclid u (pos 8_640_000_000)) units in
    let rest = c.rem_euclid-clock.ensures.value ∙ ap (λ u. int_rem_euclid u (pos 8_640_000_000)) units in
    let clock : unsigned_abs (to_z w64 (of_z w64 c.rem_euclid-clock.result)) ≡ clock_of t = omega (arith, signed_casts) ∙ ap unsigned_abs rest in
    let found = sym c.civil-year.ensures.civil ∙ ap civil_of day in
    c.write_parts.ensures
    ∙ ap (λ x. text_of x (unsigned_abs (to_z w64 (of_z w64 c.rem_euclid-clock.result)))) found
    ∙ ap (λ k. text_of (civil_of (day_of t)) k) clock

pub returns-clause-read_again : goal.returns-clause-read_again
returns-clause-read_again c =
    let t = c.args.self.now in
    let units : to_z w64 (of_z w64 c.self.inside.units) ≡ t = omega (arith, signed_casts, c.self.view_is, c.self.invariant) in
    let day : to_z w64 (of_z w64 c.div_euclid.result) ≡ day_of t = omega (arith, signed_casts) ∙ c.div_euclid.ensures ∙ ap (λ u. int_div_euclid u (pos 8_640_000_000)) units in
    let rest = c.rem_euclid-clock.ensures.value ∙ ap (λ u. int_rem_euclid u (pos 8_640_000_000)) units in
    let clock : pos (unsigned_abs (to_z w64 (of_z w64 c.rem_euclid-clock.result))) ≡ int_rem_euclid t (pos 8_640_000_000) = omega (arith, signed_casts, rest) in
    let read = read_stamp-text (civil c.civil-year.result.0 c.civil-year.result.1 c.civil-year.result.2) _ c.civil-year.ensures.year c.civil-year.ensures.valid (omega (arith, signed_casts)) in
    ap read_stamp c.write_parts.ensures ∙ read ∙ ap Some (units_back t _ _ (c.civil-year.ensures.number ∙ day) clock)
