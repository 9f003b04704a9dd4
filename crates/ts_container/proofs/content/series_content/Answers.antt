use Rattle.std.proofs.Common.{rules, Some, sym, ap, subst, ◌∙◌}
use Rattle.ts_offset.specs.declared.shape.Shape.TheVariants.{Irregular, Regular}
use Rattle.ts_container.specs.Elements.{IsContentOf}
use Rattle.ts_container.proofs.ContentLemmas.{content_found, no_heading, no_shape}
use Rattle.ts_container.proofs.content.series_content.Goals as goal

pub returns-in_err-kind : goal.returns-in_err-kind
returns-in_err-kind c =
    let d = c.args.defs.now.definitions in
    let page = c.args.page.now.bytes in
    subst (IsContentOf d c.args.number page) (sym c.from_residual.ensures) (no_heading d c.args.slot page c.requires.told c.in_err-kind.ensures.value)

pub returns-in_err-shape_of : goal.returns-in_err-shape_of
returns-in_err-shape_of c =
    let d = c.args.defs.now.definitions in
    let page = c.args.page.now.bytes in
    subst (IsContentOf d c.args.number page) (sym c.from_residual-in_err-shape_of.ensures) (no_shape d c.args.slot page c.requires.told c.in_err-shape_of.ensures)

pub returns-in-Irregular : goal.returns-in-Irregular
returns-in-Irregular c =
    let lies = sym (ap Some c.in-Irregular.is) ∙ c.in_ok-shape_of.ensures in
    content_found c.args.defs.now.definitions c.args.slot c.args.number c.format-format.result c.in_ok-kind.kind.now Irregular c.args.page.now.bytes c.span_of_stamps.result c.map.result
    c.requires.told c.in_ok-kind.ensures.value lies c.format-format.ensures.value c.span_of_stamps.ensures (search rules)

pub returns-in-Regular : goal.returns-in-Regular
returns-in-Regular c =
    let lies = sym (ap Some c.in-Regular.is) ∙ c.in_ok-shape_of.ensures in
    content_found c.args.defs.now.definitions c.args.slot c.args.number c.format-format.result c.in_ok-kind.kind.now (Regular c.in-Regular.grid) c.args.page.now.bytes c.span_on_grid.result c.map-in-Regular.result
    c.requires.told c.in_ok-kind.ensures.value lies c.format-format.ensures.value c.span_on_grid.ensures (search rules)
