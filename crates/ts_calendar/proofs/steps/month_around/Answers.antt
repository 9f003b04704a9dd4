use Rattle.std.proofs.Common.{◌≡◌, ◌∙◌, sym, ap, refl, arith, pos, ◌+ℤ◌, ◌-ℤ◌, to_z, of_z, w64}
use Rattle.jiff_core.proofs.SignedLemmas.{signed_casts, signed_arith}
use Rattle.ts_base.specs.declared.unit.Unit.TheVariants.{Month}
use Rattle.ts_calendar.specs.Line.{comes_after}
use Rattle.ts_calendar.proofs.LineLemmas.{month_at, around-here, around-before}
use Rattle.ts_calendar.proofs.steps.month_around.Goals as goal

pub returns-clause-around : goal.returns-clause-around
returns-clause-around c =
    let first = c.args.first.now in
    let s = c.args.stamp in
    let k = to_z w64 (of_z w64 (to_z w64 (of_z w64 c.month_number.result) -ℤ to_z w64 (of_z w64 c.month_number-2.result))) in
    let k_is : k ≡ month_at s -ℤ month_at first =
    omega (arith, signed_casts, c.month_number.ensures.value, c.month_number.ensures.bounds, c.month_number-2.ensures.value, c.month_number-2.ensures.bounds) in
    let comes = sym (ap (comes_after s) c.start_in.ensures) ∙ sym c.is_after.ensures ∙ c.if-is_after.false in
    around-here Month first s k c.month_number-2.ensures.within refl (λ _. c.requires) c.month_number.ensures.within
    (omega (arith, signed_arith, k_is)) (omega (arith, signed_arith, k_is)) comes

pub returns-then-is_after-clause-around : goal.returns-then-is_after-clause-around
returns-then-is_after-clause-around c =
    let first = c.args.first.now in
    let s = c.args.stamp in
    let k = to_z w64 (of_z w64 (to_z w64 (of_z w64 c.month_number.result) -ℤ to_z w64 (of_z w64 c.month_number-2.result))) in
    let j = to_z w64 (of_z w64 (k -ℤ pos 1)) in
    let k_is : k ≡ month_at s -ℤ month_at first =
    omega (arith, signed_casts, c.month_number.ensures.value, c.month_number.ensures.bounds, c.month_number-2.ensures.value, c.month_number-2.ensures.bounds) in
    let next : j +ℤ pos 1 ≡ k =
    omega (arith, signed_casts, c.month_number.ensures.bounds, c.month_number-2.ensures.bounds) in
    let comes = sym (ap (comes_after s) c.start_in.ensures) ∙ sym c.is_after.ensures ∙ c.if-is_after.true in
    around-before Month first s k j c.month_number-2.ensures.within refl (λ _. c.requires) c.month_number.ensures.within next
    (omega (arith, signed_arith, k_is, next)) comes
