use Rattle.std.proofs.Common.{◌≡◌, arith, subst, to_z, of_z, w64, pos, ◌+ℤ◌}
use Rattle.jiff_core.proofs.SignedLemmas.{signed_casts}
use Rattle.ts_offset.specs.Grid.{IsEnd}
use Rattle.ts_offset.proofs.sums.Sums.end.Goals as goal

pub returns-clause-end : goal.returns-clause-end
returns-clause-end c =
    let s = c.args.self.now in
    let f = s.facts in
    let same : s.first +ℤ pos s.existing ≡ to_z w64 (of_z w64 (to_z w64 (of_z w64 s.first) +ℤ to_z w64 s.existing)) = omega (arith, signed_casts, f.near, f.exist) in
    subst (IsEnd s.calendar) same f.end
