use Rattle.std.proofs.Common.{◌≡◌, ◌+◌, ℕ, List, length, sym, ap, ◌∙◌, arith}
use Rattle.ts_row.specs.declared.kind.Column.{Column}
use Rattle.ts_cells.specs.IrregularPage.{behind_head}
use Rattle.ts_irregular.specs.Edit.{with_element}
use Rattle.ts_irregular.proofs.BytesLemmas.{length-inserted}
use Rattle.ts_irregular.proofs.HeadLemmas.{part_behind, length-page, behind_put}
use Rattle.ts_irregular.proofs.PutLemmas.{put_before}
use Rattle.ts_irregular.proofs.page.insert_into.Goals as goal

pub returns : goal.returns
returns c = λ es order count missing same.
    let columns : List Column = c.args.shelf.now.kind.now.columns in
    let page : List ℕ = c.args.page.now.bytes in
    let long = length-page columns es page order.each (omega (arith, count, c.requires.room)) same in
    let all = part_behind 4064 page long ∙ same in
    let put = put_before c.args.stamp c.args.row.now es c.args.index (sym missing) in
    let size : length (with_element c.args.stamp c.args.row.now es) ≡ c.args.count + 1 =
    ap length put ∙ length-inserted c.args.index c.args.count (c.args.stamp, c.args.row.now) es count c.requires.index in
    c.set_count.ensures (with_element c.args.stamp c.args.row.now es) size
    (behind_put 4064 page c.insert_cell.new.behind long ∙ c.insert_cell.ensures es order.each count all ∙ ap (behind_head columns) (sym put))
