use Rattle.std.proofs.Common.{◌≡◌, ◌∙◌, sym, ap, refl, arith, pos, ◌+ℤ◌, ◌-ℤ◌, to_z, of_z, w64, to_z-of_z, FitsSigned, rules}
use Rattle.std.specs.Int.{int_div_euclid}
use Rattle.jiff_core.proofs.SignedLemmas.{signed_casts, signed_arith}
use Rattle.ts_base.specs.declared.unit.Unit.TheVariants.{Year}
use Rattle.ts_calendar.specs.Line.{comes_after}
use Rattle.ts_calendar.proofs.LineLemmas.{month_at, around-here, around-before}
use Rattle.ts_calendar.proofs.steps.year_around.Goals as goal

pub returns-clause-around : goal.returns-clause-around
returns-clause-around c =
    let first = c.args.first.now in
    let s = c.args.stamp in
    let diff : to_z w64 (of_z w64 (to_z w64 (of_z w64 c.month_number.result) -ℤ to_z w64 (of_z w64 c.month_number-2.result))) ≡ month_at s -ℤ month_at first =
    omega (arith, signed_casts, c.month_number.ensures.value, c.month_number.ensures.bounds, c.month_number-2.ensures.value, c.month_number-2.ensures.bounds) in
    let fits : FitsSigned w64 c.div_euclid-k.result = search rules in
    let k = to_z w64 (of_z w64 c.div_euclid-k.result) in
    let k_is : k ≡ int_div_euclid (month_at s -ℤ month_at first) (pos 12) =
    to_z-of_z fits ∙ c.div_euclid-k.ensures ∙ ap (λ d. int_div_euclid d (pos 12)) diff in
    let comes = sym (ap (comes_after s) c.start_in.ensures) ∙ sym c.is_after.ensures ∙ c.if-is_after.false in
    around-here Year first s k c.month_number-2.ensures.within refl (λ _. c.requires) c.month_number.ensures.within
    (omega (arith, signed_arith, k_is)) (omega (arith, signed_arith, k_is)) comes

pub returns-clause-near : goal.returns-clause-near
returns-clause-near c = (
  omega (arith, signed_casts, c.div_euclid-k.ensures, c.month_number.ensures.bounds, c.month_number-2.ensures.bounds),
  omega (arith, signed_casts, c.div_euclid-k.ensures, c.month_number.ensures.bounds, c.month_number-2.ensures.bounds),
)

pub returns-then-is_after-clause-near : goal.returns-then-is_after-clause-near
returns-then-is_after-clause-near c = (
  omega (arith, signed_casts, c.div_euclid-k.ensures, c.month_number.ensures.bounds, c.month_number-2.ensures.bounds),
  omega (arith, signed_casts, c.div_euclid-k.ensures, c.month_number.ensures.bounds, c.month_number-2.ensures.bounds),
)

pub returns-then-is_after-clause-around : goal.returns-then-is_after-clause-around
returns-then-is_after-clause-around c =
    let first = c.args.first.now in
    let s = c.args.stamp in
    let diff : to_z w64 (of_z w64 (to_z w64 (of_z w64 c.month_number.result) -ℤ to_z w64 (of_z w64 c.month_number-2.result))) ≡ month_at s -ℤ month_at first =
    omega (arith, signed_casts, c.month_number.ensures.value, c.month_number.ensures.bounds, c.month_number-2.ensures.value, c.month_number-2.ensures.bounds) in
    let fits : FitsSigned w64 c.div_euclid-k.result = search rules in
    let k = to_z w64 (of_z w64 c.div_euclid-k.result) in
    let j = to_z w64 (of_z w64 (k -ℤ pos 1)) in
    let k_is : k ≡ int_div_euclid (month_at s -ℤ month_at first) (pos 12) =
    to_z-of_z fits ∙ c.div_euclid-k.ensures ∙ ap (λ d. int_div_euclid d (pos 12)) diff in
    let next : j +ℤ pos 1 ≡ k =
    omega (arith, signed_casts, c.div_euclid-k.ensures, c.month_number.ensures.bounds, c.month_number-2.ensures.bounds) in
    let comes = sym (ap (comes_after s) c.start_in.ensures) ∙ sym c.is_after.ensures ∙ c.if-is_after.true in
    around-before Year first s k j c.month_number-2.ensures.within refl (λ _. c.requires) c.month_number.ensures.within next
    (omega (arith, signed_arith, k_is, next)) comes
