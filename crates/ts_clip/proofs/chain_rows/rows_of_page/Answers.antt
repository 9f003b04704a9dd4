use Rattle.std.proofs.Common.{List, sym, subst, arith}
use Rattle.std.proofs.lemmas.Result.{on_ok_weaker}
use Rattle.ts_row.specs.declared.kind.Column.{Column}
use Rattle.ts_row.specs.Row.{Element}
use Rattle.ts_clip.proofs.ChainPageLemmas.{cells_told}
use Rattle.ts_clip.proofs.chain_rows.rows_of_page.Goals as goal

pub returns : goal.returns
returns g c =
    let columns : List Column = c.args.shelf.now.kind.now.columns in
    let count = c.count_told-count in
    let within = c.range_on-first.ensures.within in
    record {
      took = on_ok_weaker c.rows_between.result
          (λ took es on.
          let cells = cells_told c.args.shelf.now.series count.result columns c.args.place.now c.args.page.now.bytes count.ensures.told es on in
          subst (λ (l : List Element). g.V.RowVisitor.took columns c.args.visitor.now l c.rows_between.new.visitor) (sym (c.range_on-first.ensures.range es cells.order cells.number cells.behind))
          (took es cells.order.each (omega (arith, within, cells.number)) cells.behind))
          c.rows_between.ensures;
    }
