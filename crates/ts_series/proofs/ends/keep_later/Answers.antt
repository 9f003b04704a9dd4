use Rattle.std.proofs.Common.{◌≡◌, List, ap, sym, ◌∙◌, arith, length, drop, length-drop}
use Rattle.ts_row.specs.declared.kind.Column.{Column}
use Rattle.ts_cells.specs.IrregularPage.{irregular_page}
use Rattle.ts_irregular.proofs.HeadLemmas.{part_behind, length-page}
use Rattle.ts_series.specs.Ends.{later}
use Rattle.ts_series.proofs.ends.keep_later.Goals as goal

pub returns-clause-kept : goal.returns-clause-kept
returns-clause-kept c = λ es order count same.
    let columns : List Column = c.args.shelf.now.kind.now.columns in
    let page = c.args.page.now.bytes in
    let first = c.count_until-first.result in
    let long = length-page columns es page order.each (omega (arith, count, c.requires.room)) same in
    let back : later c.args.to es ≡ drop first es = c.count_until-first.ensures.back es order count (part_behind 4064 page long ∙ same) in
    let few = c.count_until-first.ensures.few in record {
      number = ap length back ∙ omega (arith, length-drop first es, count, few);
      bytes = c.others_of.ensures es order.each count same ∙ ap (irregular_page c.args.shelf.now.series columns) (sym back);
    }
