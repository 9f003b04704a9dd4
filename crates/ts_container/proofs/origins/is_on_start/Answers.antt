use Rattle.std.proofs.Common.{◌∙◌, sym, ap, rules, FitsSigned, to_z-of_z, w64}
use Rattle.ts_calendar.specs.Calendars.{is_on, start_at}
use Rattle.ts_slots.proofs.ParseLemmas.{both_ways}
use Rattle.ts_container.proofs.OriginLemmas.{starts_around}
use Rattle.ts_container.proofs.origins.is_on_start.Goals as goal

pub returns-then-not-is_on : goal.returns-then-not-is_on
returns-then-not-is_on c =
    let plan = c.args.calendar.now in
    let k = c.interval_around-k.result in
    let fits : FitsSigned w64 k = search rules in
    let e = c.interval_around-k.ensures in (
      λ h. absurd (cc),
      λ w.
          let same = starts_around plan c.args.stamp k w.interval (c.starts_rise.ensures.rising plan e.laid) e.around w.start in
          absurd (both_ways (c.is_on.ensures ∙ ap (is_on plan) (to_z-of_z fits ∙ sym same) ∙ w.on) c.if-not-is_on.true),
    )

pub returns : goal.returns
returns c =
    let plan = c.args.calendar.now in
    let k = c.interval_around-k.result in
    let fits : FitsSigned w64 k = search rules in
    let e = c.interval_around-k.ensures in (
      λ h. record {
        interval = k;
        on = ap (is_on plan) (sym (to_z-of_z fits)) ∙ sym c.is_on.ensures ∙ c.if-not-is_on.false;
        start = ap (start_at plan) (sym (to_z-of_z fits)) ∙ c.starts_at.ensures.0 h;
      },
      λ w.
          let same = starts_around plan c.args.stamp k w.interval (c.starts_rise.ensures.rising plan e.laid) e.around w.start in
          c.starts_at.ensures.1 (ap (start_at plan) (to_z-of_z fits ∙ sym same) ∙ w.start),
    )
