use Rattle.std.proofs.Common.{◌≡◌, ◌∙◌, ◌+ℤ◌, ◌*ℤ◌, sym, ap, arith, to_z, of_z, w64}
use Rattle.jiff_core.proofs.SignedLemmas.{signed_casts}
use Rattle.ts_base.specs.Moment.{stamp_if_any}
use Rattle.ts_calendar.proofs.StampLemmas.{stamp-some}
use Rattle.ts_calendar.proofs.DatedLemmas.{stamp-exists, product}
use Rattle.ts_calendar.proofs.steps.existing_after.Goals as goal

pub overflow_mul-k : goal.overflow_mul-k
overflow_mul-k c =
    let there = stamp-exists (c.args.first.now +ℤ c.args.k *ℤ c.args.units) c.requires in
    rw (product c.args.k c.args.units c.ranges.k c.ranges.units) (omega (arith, signed_casts, there, c.units.ensures.within))

pub overflow_add-units : goal.overflow_add-units
overflow_add-units c =
    let there = stamp-exists (c.args.first.now +ℤ c.args.k *ℤ c.args.units) c.requires in
    rw (product c.args.k c.args.units c.ranges.k c.ranges.units) (omega (arith, signed_casts, there, c.units.ensures.value, c.units.ensures.within))

pub unreachable-requires : goal.unreachable-requires
unreachable-requires c =
    let n = c.args.first.now +ℤ c.args.k *ℤ c.args.units in
    let there = stamp-exists n c.requires in
    let e = rw (product c.args.k c.args.units c.ranges.k c.ranges.units) at c.of.ensures in
    let same : to_z w64 (of_z w64 (to_z w64 (of_z w64 c.units.result) +ℤ to_z w64 (of_z w64 (c.args.k *ℤ c.args.units)))) ≡ n =
    omega (arith, signed_casts, there, c.units.ensures.value, c.units.ensures.within) in
    let made = e ∙ ap stamp_if_any same ∙ stamp-some n there in
    let none = c.in_default.is in
    cc

pub returns : goal.returns
returns c =
    let n = c.args.first.now +ℤ c.args.k *ℤ c.args.units in
    let there = stamp-exists n c.requires in
    let e = rw (product c.args.k c.args.units c.ranges.k c.ranges.units) at c.of.ensures in
    let same : to_z w64 (of_z w64 (to_z w64 (of_z w64 c.units.result) +ℤ to_z w64 (of_z w64 (c.args.k *ℤ c.args.units)))) ≡ n =
    omega (arith, signed_casts, there, c.units.ensures.value, c.units.ensures.within) in
    sym (e ∙ ap stamp_if_any same) ∙ c.in-Some.is
