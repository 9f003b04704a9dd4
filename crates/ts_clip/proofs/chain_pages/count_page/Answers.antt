use Rattle.std.proofs.Common.{List, length, sym, ap, ◌∙◌, arith}
use Rattle.ts_row.specs.declared.kind.Column.{Column}
use Rattle.ts_row.specs.Row.{Element, seen}
use Rattle.ts_clip.proofs.ChainPageLemmas.{page_read}
use Rattle.ts_clip.proofs.chain_pages.count_page.Goals as goal

pub returns-clause-count : goal.returns-clause-count
returns-clause-count g c = λ told es on.
    let columns : List Column = c.args.shelf.now.kind.now.columns in
    let read =
    page_read g.P.Pages.tells c.args.shelf.now.series c.count_told-count.result columns c.args.place.now c.get.new.into.bytes (g.P.Pages.contents c.args.pages.now) (g.P.Pages.contents c.get.new.self)
    c.requires.readable.element c.in_ok-get.ensures.got c.count_told-count.ensures.told told es on in
    let within = c.range_on-first.ensures.within in
    c.count_cells.ensures.count es read.order.each (omega (arith, within, read.number)) read.behind
    ∙ ap (λ (l : List Element). length (seen l)) (sym (c.range_on-first.ensures.range es read.order read.number read.behind))
