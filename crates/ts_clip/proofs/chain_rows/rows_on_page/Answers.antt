use Rattle.std.proofs.Common.{List, [], ◌∷◌, refl}
use Rattle.ts_row.specs.declared.kind.Column.{Column}
use Rattle.ts_irregular.proofs.FindLemmas.{read_on}
use Rattle.ts_clip.proofs.chain_rows.rows_on_page.Goals as goal

pub returns-clause-read : goal.returns-clause-read
returns-clause-read g c = λ told es on.
    let columns : List Column = c.args.shelf.now.kind.now.columns in
    let place = c.args.place.now in
    c.in_ok-rows_of_page.ensures.took es
    (read_on g.P.Pages.tells c.args.shelf.now.series columns (place ∷ []) place c.get.new.into.bytes (g.P.Pages.contents c.args.pages.now) (g.P.Pages.contents c.get.new.self) refl c.requires.readable.element c.in_ok-get.ensures.got told es on)
