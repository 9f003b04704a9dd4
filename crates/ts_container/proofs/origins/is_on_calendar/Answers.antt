use Rattle.std.proofs.Common.{Some, sym, ap, subst, ◌∙◌}
use Rattle.std.specs.Option.{option_copied}
use Rattle.ts_offset.specs.Grid.{IsOnStart}
use Rattle.ts_model.specs.Definitions.{CalendarDef, at_slot}
use Rattle.ts_container.proofs.ShapeLemmas.{calendar_at, of_one}
use Rattle.ts_container.proofs.origins.is_on_calendar.Goals as goal

pub returns-in-Some-Calendar : goal.returns-in-Some-Calendar
returns-in-Some-Calendar c =
    let d = c.args.defs.now.definitions in
    let there = calendar_at d c.args.calendar _ c.in-Some-Calendar.calendar _ (sym c.get.ensures ∙ ap option_copied c.in-Some-Calendar.is ∙ ap Some c.in-Some-Calendar.field-0-is) in (
      λ is. of_one (λ (x : CalendarDef). IsOnStart x.calendar c.args.stamp) (at_slot c.args.calendar d.calendars) _ there (subst (λ p. IsOnStart p c.args.stamp) c.calendar.ensures (c.is_on_start.ensures.0 is)),
      λ all. c.is_on_start.ensures.1 (subst (λ p. IsOnStart p c.args.stamp) (sym c.calendar.ensures) (all _ there)),
    )
