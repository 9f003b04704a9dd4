use Rattle.std.proofs.Common.{List}
use Rattle.ts_row.specs.declared.kind.Column.{Column}
use Rattle.ts_clip.proofs.ChainPageLemmas.{page_read}
use Rattle.ts_clip.proofs.chain_first.first_on.Goals as goal

pub returns-clause-first : goal.returns-clause-first
returns-clause-first g c = λ told es on.
    let columns : List Column = c.args.shelf.now.kind.now.columns in
    let read =
    page_read g.P.Pages.tells c.args.shelf.now.series c.count_told-count.result columns c.args.place.now c.get.new.into.bytes (g.P.Pages.contents c.args.pages.now) (g.P.Pages.contents c.get.new.self)
    c.requires.readable.element c.in_ok-get.ensures.got c.count_told-count.ensures.told told es on in
    c.in_ok-first_among.ensures.first es read.order.each read.number read.behind
