use Rattle.std.proofs.Common.{◌≡◌, ◌∙◌, sym, ap, arith, to_z, of_z, w64}
use Rattle.jiff_core.proofs.SignedLemmas.{signed_casts}
use Rattle.ts_calendar.specs.Calendars.{IsOnStamp}
use Rattle.ts_offset.specs.Grid.{on_start, IsOnStart}
use Rattle.ts_offset.proofs.WindowLemmas.{on-start}
use Rattle.ts_offset.proofs.HeldLemmas.{held-at, on-start-is, started, missing, none-on}
use Rattle.ts_offset.proofs.walk.held_start.Goals as goal

pub returns-clause-value : goal.returns-clause-value
returns-clause-value c =
    let plan = c.args.calendar.now in
    let k = c.interval_around.result in
    let e = c.interval_around.ensures in
    let same : to_z w64 (of_z w64 k) ≡ k = omega (arith, signed_casts, e.near) in
    c.on_start.ensures ∙ ap (on_start plan) same
    ∙ sym (held-at plan c.args.stamp k e.laid e.stamp (omega (arith, signed_casts, e.near), omega (arith, signed_casts, e.near)) e.around)

pub returns-clause-on : goal.returns-clause-on
returns-clause-on c =
    let plan = c.args.calendar.now in
    started (IsOnStart plan) c.on_start.result (λ s e. on-start-is plan _ s (on-start plan _ s (sym c.on_start.ensures ∙ e)))

pub returns-clause-none : goal.returns-clause-none
returns-clause-none c =
    let plan = c.args.calendar.now in
    let k = c.interval_around.result in
    let e = c.interval_around.ensures in
    let same : to_z w64 (of_z w64 k) ≡ k = omega (arith, signed_casts, e.near) in
    missing (IsOnStamp plan c.args.stamp → ⊥) c.on_start.result (λ none.
    none-on plan c.args.stamp k e.laid e.stamp e.around (sym (ap (on_start plan) same) ∙ sym c.on_start.ensures ∙ none))
