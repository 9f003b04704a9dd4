use Rattle.std.proofs.Common.{◌≡◌, ◌<◌, ℕ, List, length, ◌∙◌, arith}
use Rattle.ts_row.specs.declared.kind.Column.{Column}
use Rattle.ts_regular.specs.RegularPage.{filled_count}
use Rattle.ts_regular.specs.OnePage.{with_row}
use Rattle.ts_regular.proofs.CellsLemmas.{count_put}
use Rattle.ts_regular.proofs.HeadLemmas.{part_behind, length-page, behind_put}
use Rattle.ts_regular.proofs.page.put_into.Goals as goal

pub returns-clause-put : goal.returns-clause-put
returns-clause-put c = λ cells are room count same.
    let columns : List Column = c.args.shelf.now.kind.now.columns in
    let page : List ℕ = c.args.page.now.bytes in
    let long = length-page columns cells page are room same in
    let all = part_behind 4064 page long ∙ same in
    let within : c.args.index < length cells = omega (arith, room, c.requires.index) in
    let there = c.has_element_at-there.ensures cells are within all in
    let counted : filled_count (with_row c.args.index c.args.row.now cells) ≡ c.count_with-count.result =
    count_put c.args.index c.args.row.now cells c.args.count c.count_with-count.result c.regular_room.result c.has_element_at-there.result within there count (omega (arith, room, c.regular_room.ensures.value)) c.count_with-count.ensures.over c.count_with-count.ensures.new in
    (counted, c.set_count.ensures (with_row c.args.index c.args.row.now cells) counted (behind_put 4064 page c.put_cell.new.behind long ∙ c.put_cell.ensures cells are within all))
