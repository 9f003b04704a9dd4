use Rattle.std.proofs.Common.{◌≡◌, List, sym, ◌∙◌}
use Rattle.ts_row.specs.declared.kind.Column.{Column}
use Rattle.ts_regular.specs.RegularPage.{cells_bytes}
use Rattle.ts_regular.proofs.HeadLemmas.{front_cells}
use Rattle.ts_regular.proofs.JudgeLemmas.{same_count}
use Rattle.ts_regular.proofs.extent.extent_in.Goals as goal

pub returns-then-extent-count-clause-none : goal.returns-then-extent-count-clause-none
returns-then-extent-count-clause-none c = λ cells fill count same.
    let columns : List Column = c.args.kind.now.columns in
    let found = c.in_ok-extent.ensures.found in
    let own : cells_bytes columns cells ≡ cells_bytes columns found.0 =
    sym (front_cells columns c.cell_size.result c.regular_room.result cells c.args.behind.now fill.each fill.room same c.cell_size.ensures.value c.regular_room.ensures.value) ∙ sym c.split_at.ensures.front ∙ found.3 in
    let one = same_count columns cells found.0 fill.each found.1.each (fill.room ∙ sym found.1.room) own in
    c.if-extent-count.true (sym found.2.count ∙ sym one ∙ count)
