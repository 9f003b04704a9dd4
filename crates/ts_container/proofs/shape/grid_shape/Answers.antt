use Rattle.std.proofs.Common.{Some, sym, ap, ◌∙◌}
use Rattle.std.specs.Option.{option_copied}
use Rattle.ts_offset.specs.Grid.{GridPlan}
use Rattle.ts_offset.specs.declared.shape.Shape.TheVariants.{Regular}
use Rattle.ts_container.proofs.ShapeLemmas.{calendar_at, shape_on}
use Rattle.ts_container.proofs.shape.grid_shape.Goals as goal

pub at-requires : goal.at-requires
at-requires c =
    let d = c.args.defs.now.definitions in
    c.requires _ (calendar_at d c.args.calendar _ c.in-Some-Calendar.calendar _ (sym c.get.ensures ∙ ap option_copied c.in-Some-Calendar.is ∙ ap Some c.in-Some-Calendar.field-0-is))

pub returns-in-Some-Calendar : goal.returns-in-Some-Calendar
returns-in-Some-Calendar c =
    let d = c.args.defs.now.definitions in
    let there = calendar_at d c.args.calendar _ c.in-Some-Calendar.calendar _ (sym c.get.ensures ∙ ap option_copied c.in-Some-Calendar.is ∙ ap Some c.in-Some-Calendar.field-0-is) in
    ap (λ (g : GridPlan). Some (Regular g)) c.at.ensures ∙ shape_on d c.args.calendar c.args.origin _ there
