use Rattle.std.proofs.Common.{ℕ, List, ◌∙◌}
use Rattle.ts_row.specs.declared.kind.Column.{Column}
use Rattle.ts_regular.specs.Cut.{cells_outside}
use Rattle.ts_regular.proofs.HeadLemmas.{part_behind, length-page, behind_put}
use Rattle.ts_regular.proofs.cut.clear_page.Goals as goal

pub returns-clause-cleared : goal.returns-clause-cleared
returns-clause-cleared c = λ cells are room count same.
    let columns : List Column = c.args.shelf.now.kind.now.columns in
    let page : List ℕ = c.args.page.now.bytes in
    let long = length-page columns cells page are room same in
    let made = c.clear_cells-left.ensures.cleared cells are room count (part_behind 4064 page long ∙ same) in
    (made.0, c.set_count.ensures (cells_outside c.args.from c.args.to c.args.base cells) made.0 (behind_put 4064 page c.clear_cells-left.new.behind long ∙ made.1))
