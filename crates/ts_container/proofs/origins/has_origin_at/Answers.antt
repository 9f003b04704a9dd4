use Rattle.std.proofs.Common.{ℕ, ℤ, Option, Some, IfSome, sym, ap, subst, ◌∙◌}
use Rattle.std.specs.Option.{option_copied}
use Rattle.ts_model.specs.Definitions.{SeriesDef, at_slot}
use Rattle.ts_layout.specs.Meaning.{IsOnCalendar}
use Rattle.ts_container.proofs.ShapeLemmas.{series_stands, of_one}
use Rattle.ts_container.proofs.origins.has_origin_at.Goals as goal

pub returns-in-Some : goal.returns-in-Some
returns-in-Some c =
    let d = c.args.defs.now.definitions in
    let there = series_stands d c.args.slot _ _ c.in-Some-Series.regular (sym c.get.ensures ∙ ap option_copied c.in-Some-Series.is ∙ ap Some c.in-Some-Series.field-0-is) in
    let P : Option (ℕ × ℤ) → Type 0 = λ o. IfSome o (IsOnCalendar d) in (
      λ is. of_one (λ (s : SeriesDef). P s.regular) (at_slot c.args.slot d.series) _ there (subst P (sym c.in-Some.is) (c.is_on_calendar.ensures.0 is)),
      λ all. c.is_on_calendar.ensures.1 (subst P c.in-Some.is (all _ there)),
    )
