use Rattle.std.proofs.Common.{ℕ, ℤ, Option, Some, IfSome, sym, ap, subst, ◌∙◌}
use Rattle.std.specs.Option.{option_copied}
use Rattle.ts_layout.specs.Meaning.{IsOnCalendar}
use Rattle.ts_container.proofs.ShapeLemmas.{series_stands}
use Rattle.ts_container.proofs.shape.shape_of.Goals as goal

pub grid_shape-requires : goal.grid_shape-requires
grid_shape-requires c =
    let d = c.args.defs.now.definitions in
    let there = series_stands d c.args.slot _ _ c.in-Some-Series.regular (sym c.get.ensures ∙ ap option_copied c.in-Some-Series.is ∙ ap Some c.in-Some-Series.field-0-is) in
    let P : Option (ℕ × ℤ) → Type 0 = λ o. IfSome o (IsOnCalendar d) in
    subst P c.in-Some.is (c.requires.origins c.args.slot _ there)
