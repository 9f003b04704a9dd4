use Rattle.std.proofs.Common.{List, ◌∙◌, arith, length-drop}
use Rattle.ts_row.specs.declared.kind.Column.{Column}
use Rattle.ts_irregular.proofs.HeadLemmas.{part_behind, length-page, behind_put}
use Rattle.ts_chain.proofs.page.others_of.Goals as goal

pub returns : goal.returns
returns c = λ es are count same.
    let columns : List Column = c.args.shelf.now.kind.now.columns in
    let page = c.args.page.now.bytes in
    let long = length-page columns es page are (omega (arith, count, c.requires.room)) same in
    c.set_count.ensures _ (omega (arith, length-drop c.args.first es, count))
    (behind_put 4064 page c.keep_others.new.behind long ∙ c.keep_others.ensures es are count (part_behind 4064 page long ∙ same))
