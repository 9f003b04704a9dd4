use Rattle.std.proofs.Common.{List}
use Rattle.ts_row.specs.declared.kind.Column.{Column}
use Rattle.ts_regular.proofs.KeptLemmas.{read_on}
use Rattle.ts_clip.proofs.grid_page_rows.rows_on_page.Goals as goal

pub returns-clause-took : goal.returns-clause-took
returns-clause-took g c = λ t p on laid starts.
    let columns : List Column = c.args.shelf.now.kind.now.columns in
    c.in_ok-rows_of_page.ensures.took p
    (read_on g.P.Pages.tells c.args.shelf.now.series columns c.args.place.now c.get.new.into.bytes (g.P.Pages.contents c.args.pages.now) (g.P.Pages.contents c.get.new.self) c.requires.readable.element c.in_ok-get.ensures.got t p on) laid starts
