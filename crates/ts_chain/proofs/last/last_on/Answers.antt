use Rattle.std.proofs.Common.{List, refl, ◌∙◌, arith}
use Rattle.ts_row.specs.declared.kind.Column.{Column}
use Rattle.ts_irregular.proofs.HeadLemmas.{part_behind, length-page}
use Rattle.ts_irregular.proofs.LastLemmas.{last_there}
use Rattle.ts_chain.proofs.last.last_on.Goals as goal

pub returns-clause-last : goal.returns-clause-last
returns-clause-last g c =
    let columns : List Column = c.args.shelf.now.kind.now.columns in
    last_there g.P.Pages.tells c.args.shelf.now.series c.count_told-count.result columns _ c.args.place.now c.get.new.into.bytes c.in_ok-last_among.field-0 (g.P.Pages.contents c.args.pages.now) (g.P.Pages.contents c.get.new.self)
    refl c.requires.readable.element c.in_ok-get.ensures.got c.count_told-count.ensures.told
    (λ es order count behind. c.in_ok-last_among.ensures.last es order count (part_behind 4064 c.get.new.into.bytes (length-page columns es c.get.new.into.bytes order.each (omega (arith, count, c.count_told-count.ensures.room)) behind) ∙ behind))
