use Rattle.std.proofs.Common.{List, ◌++◌, ◌∙◌, arith, length-append}
use Rattle.ts_row.specs.declared.kind.Column.{Column}
use Rattle.ts_irregular.proofs.HeadLemmas.{part_behind, length-page, behind_put}
use Rattle.ts_chain.proofs.page.append_page.Goals as goal

pub returns : goal.returns
returns c = λ es fs are1 are2 count1 count2 same1 same2.
    let columns : List Column = c.args.shelf.now.kind.now.columns in
    let page = c.args.page.now.bytes in
    let other = c.args.others.now.bytes in
    let long1 = length-page columns es page are1 (omega (arith, count1, c.requires)) same1 in
    let long2 = length-page columns fs other are2 (omega (arith, count2, c.requires)) same2 in
    c.set_count.ensures (es ++ fs) (omega (arith, length-append es fs, count1, count2))
    (behind_put 4064 page c.append_cells.new.behind long1
    ∙ c.append_cells.ensures es fs are1 are2 count1 count2 (part_behind 4064 page long1 ∙ same1) (part_behind 4064 other long2 ∙ same2))
