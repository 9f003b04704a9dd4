use Rattle.std.proofs.Common.{List, ◌∙◌, arith}
use Rattle.std.proofs.lemmas.List.{length-take-le}
use Rattle.ts_row.specs.declared.kind.Column.{Column}
use Rattle.ts_irregular.proofs.HeadLemmas.{part_behind, length-page, behind_put}
use Rattle.ts_chain.proofs.page.first_of.Goals as goal

pub returns : goal.returns
returns c = λ es are count same.
    let columns : List Column = c.args.shelf.now.kind.now.columns in
    let page = c.args.page.now.bytes in
    let long = length-page columns es page are (omega (arith, count, c.requires.room)) same in
    c.set_count.ensures _ (length-take-le c.args.keep es (omega (arith, count, c.requires.keep)))
    (behind_put 4064 page c.keep_first.new.behind long ∙ c.keep_first.ensures es are count (part_behind 4064 page long ∙ same))
