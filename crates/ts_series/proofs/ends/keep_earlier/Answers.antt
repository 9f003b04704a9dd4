use Rattle.std.proofs.Common.{◌≡◌, List, ap, sym, ◌∙◌, arith, length, take}
use Rattle.std.proofs.lemmas.List.{length-take-le}
use Rattle.ts_row.specs.declared.kind.Column.{Column}
use Rattle.ts_cells.specs.IrregularPage.{irregular_page}
use Rattle.ts_irregular.proofs.HeadLemmas.{part_behind, length-page}
use Rattle.ts_sheets.specs.Stamped.{earlier}
use Rattle.ts_series.proofs.ends.keep_earlier.Goals as goal

pub returns-clause-kept : goal.returns-clause-kept
returns-clause-kept c = λ es order count same.
    let columns : List Column = c.args.shelf.now.kind.now.columns in
    let page = c.args.page.now.bytes in
    let keep = c.count_earlier-keep.result in
    let long = length-page columns es page order.each (omega (arith, count, c.requires.room)) same in
    let front : earlier c.args.from es ≡ take keep es = c.count_earlier-keep.ensures.front es order count (part_behind 4064 page long ∙ same) in
    let few = c.count_earlier-keep.ensures.few in record {
      number = ap length front ∙ length-take-le keep es (omega (arith, count, few));
      bytes = c.first_of.ensures es order.each count same ∙ ap (irregular_page c.args.shelf.now.series columns) (sym front);
    }
