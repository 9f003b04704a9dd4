use Rattle.std.proofs.Common.{◌≡◌, arith, pos, ◌+ℤ◌, to_z, of_z, w64, subst}
use Rattle.jiff_core.proofs.SignedLemmas.{signed_casts}
use Rattle.ts_offset.specs.Grid.{IsFirstFrom, IsEnd}
use Rattle.ts_calendar.specs.Calendars.{IsLaid}
use Rattle.ts_offset.proofs.StartLemmas.{first-next, end-after}
use Rattle.ts_offset.proofs.walk.end_of.Goals as goal

pub returns-clause-end : goal.returns-clause-end
returns-clause-end c =
    let plan = c.args.calendar.now in
    let k = c.interval_around.result in
    let e = c.interval_around.ensures in
    let laid : IsLaid plan = e.laid in
    let next : k +ℤ pos 1 ≡ to_z w64 (of_z w64 (to_z w64 (of_z w64 k) +ℤ pos 1)) = omega (arith, signed_casts, e.near) in
    let first = first-next plan k c.greatest.result laid e.around (omega (arith, signed_casts, e.near), omega (arith, signed_casts, e.near)) in
    subst (IsEnd plan) next (end-after plan (k +ℤ pos 1) laid (subst (λ t. IsFirstFrom plan (t +ℤ pos 1) (k +ℤ pos 1)) c.greatest.ensures first))
