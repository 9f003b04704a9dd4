-- The page is read once: it stays where the stamp wasn't found, and has another mark where it was.
use Rattle.std.proofs.Common.{ℕ, ◌+◌, ℤ, Option, List, ◌∷◌, ◌++◌, take, drop, ap, ◌∙◌, subst}
use Rattle.ts_row.specs.Row.{marked}
use Rattle.ts_row.specs.declared.kind.Column.{Column}
use Rattle.ts_cells.specs.IrregularPage.{behind_head}
use Rattle.ts_irregular.specs.Call.{IsIndexOn}
use Rattle.ts_irregular.proofs.InsertLemmas.{put_over}
use Rattle.ts_irregular.proofs.mark.mark_on.Goals as goal

pub returns-clause-ok : goal.returns-clause-ok
returns-clause-ok g c =
    let columns : List Column = c.args.shelf.now.kind.now.columns in
    let v = g.P.Pages.contents c.args.pages.now in
    let u = g.P.Pages.contents c.index_on.new.pages in
    let bytes : List ℕ = c.index_on.new.page.bytes in
    let Q : Option ℕ → Type 0 = IsIndexOn g.P.Pages.tells c.args.shelf.now.series columns c.args.stamp c.args.place.now bytes v u in
    put_over g.P.Pages.tells c.args.shelf.now.series columns c.args.stamp c.args.place.now (marked c.args.hidden) (λ row fit. fit)
    bytes c.mark_at.new.behind c.in-Some.index v u (g.P.Pages.contents c.put.new.self)
    c.in_ok-index.ensures.call.pages c.in_ok-index.ensures.call.free (subst Q c.in-Some.is c.in_ok-index.ensures.found) c.in_ok-put.ensures.put
    (λ es e are at here same. c.mark_at.ensures es e are at same
    ∙ ap (λ (z : ℤ). behind_head columns (take c.in-Some.index es ++ (z, marked c.args.hidden e.1) ∷ drop (c.in-Some.index + 1) es)) here)
