use Rattle.std.proofs.Common.{List, ℕ, ◌∙◌, arith}
use Rattle.ts_irregular.proofs.HeadLemmas.{part_behind, length-page, behind_put}
use Rattle.ts_irregular.proofs.page.take_out.Goals as goal

pub returns-clause-count : goal.returns-clause-count
returns-clause-count c = λ es order count same.
    let page : List ℕ = c.args.page.now.bytes in
    let long = length-page c.args.shelf.now.kind.now.columns es page order.each (omega (arith, count, c.requires.room)) same in
    c.take_row-count.ensures.count es order count (part_behind 4064 page long ∙ same)

pub returns-clause-bytes : goal.returns-clause-bytes
returns-clause-bytes c = λ es order count same.
    let page : List ℕ = c.args.page.now.bytes in
    let long = length-page c.args.shelf.now.kind.now.columns es page order.each (omega (arith, count, c.requires.room)) same in
    let all = part_behind 4064 page long ∙ same in
    c.set_count.ensures _ (c.take_row-count.ensures.count es order count all) (behind_put 4064 page c.take_row-count.new.behind long ∙ c.take_row-count.ensures.bytes es order count all)
