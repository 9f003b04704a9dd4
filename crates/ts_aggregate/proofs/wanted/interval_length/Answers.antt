use Rattle.std.proofs.Common.{◌≡◌, ◌∙◌, false, sym, ap, subst, arith, ℤ, pos, ◌-ℤ◌, Some, to_z, of_z, w64}
use Rattle.std.proofs.lemmas.Int.{ints}
use Rattle.ts_base.specs.Moment.{IsStamp}
use Rattle.ts_pattern.specs.Patterns.{is_monthly, Plan}
use Rattle.ts_calendar.specs.Calendars.{start_at}
use Rattle.ts_aggregate.specs.Groups.{Lasts}
use Rattle.ts_aggregate.proofs.LengthLemmas.{lasts}
use Rattle.ts_aggregate.proofs.wanted.interval_length.Goals as goal

pub returns : goal.returns
returns c =
    let plan = c.args.calendar.now in
    let n : ℤ = c.in_ok-next.next in
    let clock : is_monthly plan.pattern.unit ≡ false =
    sym (c.is_monthly.ensures ∙ ap is_monthly (c.unit.ensures ∙ ap (λ (p : Plan). p.unit) c.pattern.ensures)) ∙ c.if-is_monthly.false in
    let one : start_at plan (pos 1) ≡ Some n = sym c.start_of.ensures ∙ c.in_ok-next.was in
    let is : (n -ℤ plan.patt_start) ≡ to_z w64 (of_z w64 (to_z w64 (of_z w64 c.units.result) -ℤ to_z w64 (of_z w64 c.units-2.result))) =
    omega (arith, ints, c.units.ensures.value, c.units.ensures.within, c.units-2.ensures.value, c.units-2.ensures.within, c.patt_start.ensures.value) in
    subst (Lasts plan) is (lasts plan n c.patt_start.ensures.laid clock one (subst IsStamp c.units.ensures.value c.units.ensures.within))
