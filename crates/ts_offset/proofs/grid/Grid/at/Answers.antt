use Rattle.std.proofs.Common.{◌≡◌, ◌∙◌, sym, ap, arith, to_z, of_z, w64, subst}
use Rattle.jiff_core.proofs.SignedLemmas.{signed_casts}
use Rattle.ts_calendar.specs.Calendars.{start_at, is_on}
use Rattle.ts_offset.specs.Grid.{IsOnStart}
use Rattle.ts_offset.proofs.StartLemmas.{first-at, at-around}
use Rattle.ts_offset.proofs.grid.Grid.at.Goals as goal

pub invariant_of-result : goal.invariant_of-result
invariant_of-result c =
    let x = c.sums-sums.result.now in
    let plan = x.calendar in
    let f = c.interval_around in
    let n = c.counted-first in
    let w : IsOnStart plan c.args.origin = subst (λ p. IsOnStart p c.args.origin) (sym c.sums-sums.ensures) c.requires in
    let here = at-around plan f.result w.interval c.args.origin f.ensures.laid f.ensures.around w.start in
    let same : to_z w64 (of_z w64 f.result) ≡ f.result = omega (arith, signed_casts, f.ensures.near) in
    let there : w.interval ≡ n.result.interval = here ∙ sym same ∙ sym n.ensures.interval in
    let start = ap (start_at plan) (sym there) ∙ w.start in (
      first-at plan n.result.interval c.args.origin f.ensures.laid n.ensures.counted.near start,
      start,
      ap (is_on plan) (sym there) ∙ w.on,
      n.ensures.counted,
    )
