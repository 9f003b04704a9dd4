use Rattle.std.proofs.Common.{List, sym, ap, arith}
use Rattle.ts_row.specs.declared.kind.Column.{Column}
use Rattle.ts_row.specs.Row.{seen}
use Rattle.ts_clip.proofs.ChainPassedLemmas.{passed_same}
use Rattle.ts_clip.proofs.ChainPageLemmas.{page_read}
use Rattle.ts_clip.proofs.chain_pages.visit_page.Goals as goal

pub returns-clause-passed : goal.returns-clause-passed
returns-clause-passed g c = λ told es on.
    let columns : List Column = c.args.shelf.now.kind.now.columns in
    let read =
    page_read g.P.Pages.tells c.args.shelf.now.series c.count_told-count.result columns c.args.place.now c.get.new.into.bytes (g.P.Pages.contents c.args.pages.now) (g.P.Pages.contents c.get.new.self)
    c.requires.readable.element c.in_ok-get.ensures.got c.count_told-count.ensures.told told es on in
    let within = c.range_on-first.ensures.within in
    passed_same _ _ _ _ _ (ap seen (sym (c.range_on-first.ensures.range es read.order read.number read.behind)))
    (c.in_ok-visit_cells.ensures.passed es read.order.each (omega (arith, within, read.number)) read.behind)
