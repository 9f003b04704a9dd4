use Rattle.std.proofs.Common.{◌≡◌, ◌∙◌, ◌≤ℤ◌, ◌-ℤ◌, ap, arith, pos, to_z, of_z, w64}
use Rattle.std.specs.Prelude.{neg_ℤ}
use Rattle.jiff_core.proofs.SignedLemmas.{signed_casts}
use Rattle.ts_pattern.specs.Patterns.{total}
use Rattle.ts_calendar.specs.Calendars.{start_in, starts_from}
use Rattle.ts_calendar.proofs.StampLemmas.{int_lt_no}
use Rattle.ts_calendar.proofs.valid.is_apart.Goals as goal

pub returns-clause-value : goal.returns-clause-value
returns-clause-value c =
    let plan = c.args.pattern.now in
    let first = c.args.patt_start.now in
    let k = to_z w64 (of_z w64 (pos 0 -ℤ to_z w64 c.length.result)) in
    let k_is : k ≡ neg_ℤ (pos (total plan.runs)) = omega (arith, signed_casts, c.length.ensures.value) in
    let ordered : c.args.start ≤ℤ first =
    omega (arith, signed_casts, c.units.ensures.value, c.units.ensures.within, c.units-2.ensures.value, c.units-2.ensures.within, c.if-units.false) in
    let starts = c.start_in.ensures ∙ ap (λ u. start_in u first k) c.unit.ensures ∙ ap (start_in plan.unit first) k_is in
    rw (int_lt_no first c.args.start ordered) (c.starts_from.ensures ∙ ap (starts_from c.args.start) starts)
