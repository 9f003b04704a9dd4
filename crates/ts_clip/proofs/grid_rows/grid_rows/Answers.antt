use Rattle.std.proofs.Common.{List, ap, subst, ◌∙◌}
use Rattle.std.proofs.lemmas.Result.{IfOk-weaker}
use Rattle.ts_row.specs.declared.kind.Column.{Column}
use Rattle.ts_row.specs.Row.{Element}
use Rattle.ts_sheets.specs.Stamped.{within_range}
use Rattle.ts_regular.specs.Places.{all_in}
use Rattle.ts_regular_edits.proofs.RangeLemmas.{within_stamped}
use Rattle.ts_clip.proofs.grid_rows.grid_rows.Goals as goal

pub returns-clause-read : goal.returns-clause-read
returns-clause-read g c =
    let columns : List Column = c.args.shelf.now.kind.now.columns in
    let o = c.offsets_of-offsets in
    IfOk-weaker c.rows_on_places.result _ _
    (λ done taken told es have.
    subst (λ (l : List Element). g.V.RowVisitor.took columns c.args.visitor.now l c.rows_on_places.new.visitor)
    (within_stamped c.args.grid.now c.requires.laid c.args.from c.args.to o.result.lower o.result.upper o.ensures.offsets (all_in have.0) have.2
    ∙ ap (within_range c.args.from c.args.to) have.3)
    (taken told have.0 have.1 c.requires.laid have.2))
    c.rows_on_places.ensures.took
