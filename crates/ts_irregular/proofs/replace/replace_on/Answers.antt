-- The page is read once: it stays where the stamp wasn't found, and has another row where it was.
use Rattle.std.proofs.Common.{ℕ, Option, List, subst}
use Rattle.std.proofs.lemmas.Option.{slice_get_within}
use Rattle.ts_row.specs.declared.kind.Column.{Column}
use Rattle.ts_irregular.specs.Call.{IsIndexOn}
use Rattle.ts_irregular.proofs.InsertLemmas.{put_over}
use Rattle.ts_irregular.proofs.replace.replace_on.Goals as goal

pub returns-clause-ok : goal.returns-clause-ok
returns-clause-ok g c =
    let columns : List Column = c.args.shelf.now.kind.now.columns in
    let v = g.P.Pages.contents c.args.pages.now in
    let u = g.P.Pages.contents c.index_on.new.pages in
    let bytes : List ℕ = c.index_on.new.page.bytes in
    let Q : Option ℕ → Type 0 = IsIndexOn g.P.Pages.tells c.args.shelf.now.series columns c.args.stamp c.args.place.now bytes v u in
    put_over g.P.Pages.tells c.args.shelf.now.series columns c.args.stamp c.args.place.now (λ old. c.args.row.now) (λ old fit. c.requires.fits)
    bytes c.replace_cell.new.behind c.in-Some.index v u (g.P.Pages.contents c.put.new.self)
    c.in_ok-index.ensures.call.pages c.in_ok-index.ensures.call.free (subst Q c.in-Some.is c.in_ok-index.ensures.found) c.in_ok-put.ensures.put
    (λ es e are at here same. c.replace_cell.ensures es are (slice_get_within es c.in-Some.index e at) same)
