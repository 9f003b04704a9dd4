use Rattle.std.proofs.Common.{◌≡◌, arith, pos, ◌+ℤ◌, to_z, of_z, w64, subst}
use Rattle.jiff_core.proofs.SignedLemmas.{signed_casts}
use Rattle.ts_offset.specs.Grid.{IsFirstFrom}
use Rattle.ts_offset.proofs.StartLemmas.{first-next}
use Rattle.ts_offset.proofs.walk.first_after.Goals as goal

pub returns : goal.returns
returns c =
    let plan = c.args.calendar.now in
    let k = c.interval_around.result in
    let e = c.interval_around.ensures in
    let next : k +ℤ pos 1 ≡ to_z w64 (of_z w64 (to_z w64 (of_z w64 k) +ℤ pos 1)) = omega (arith, signed_casts, e.near) in
    subst (IsFirstFrom plan (c.args.stamp +ℤ pos 1)) next
    (first-next plan k c.args.stamp e.laid e.around (omega (arith, signed_casts, e.near), omega (arith, signed_casts, e.near)))
