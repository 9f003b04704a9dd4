use Rattle.std.proofs.Common.{List, ap, subst, ◌∙◌}
use Rattle.std.proofs.lemmas.Result.{on_ok_weaker}
use Rattle.ts_row.specs.declared.kind.Column.{Column}
use Rattle.ts_row.specs.Row.{Element}
use Rattle.ts_sheets.specs.Stamped.{within_range}
use Rattle.ts_regular.specs.Places.{all_in}
use Rattle.ts_regular_edits.proofs.RangeLemmas.{within_stamped}
use Rattle.ts_clip.proofs.grid_rows.grid_rows_of_pages.Goals as goal

pub returns : goal.returns
returns g c =
    let columns : List Column = c.args.shelf.now.kind.now.columns in
    let o = c.offsets_of-offsets in
    record {
      took = on_ok_weaker c.rows_in_memory.result
          (λ took laid pages es are have.
          subst (λ (l : List Element). g.V.RowVisitor.took columns c.args.visitor.now l c.rows_in_memory.new.visitor)
          (within_stamped c.args.grid.now laid c.args.from c.args.to o.result.lower o.result.upper o.ensures.offsets (all_in have.0) have.2
          ∙ ap (within_range c.args.from c.args.to) have.3)
          (took pages have.0 are have.1 laid have.2))
          c.rows_in_memory.ensures.took;
    }
