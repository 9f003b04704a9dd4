use Rattle.std.proofs.Common.{List, ℕ, Option, sym, refl, subst}
use Rattle.ts_row.specs.declared.kind.Column.{Column}
use Rattle.ts_irregular.specs.Call.{IsIndexOn}
use Rattle.ts_irregular.proofs.InsertLemmas.{index_found}
use Rattle.ts_irregular.proofs.index.index_on.Goals as goal

pub returns-clause-found : goal.returns-clause-found
returns-clause-found g c =
    let columns : List Column = c.args.shelf.now.kind.now.columns in
    let v = g.P.Pages.contents c.args.pages.now in
    let w = g.P.Pages.contents c.get.new.self in
    let bytes : List ℕ = c.get.new.into.bytes in
    let Q : Option ℕ → Type 0 = IsIndexOn g.P.Pages.tells c.args.shelf.now.series columns c.args.stamp c.args.place.now bytes v w in
    subst Q (sym c.ok.ensures.value)
    (index_found g.P.Pages.tells c.args.shelf.now.series columns c.args.stamp c.args.place.now bytes v w c.requires.place.element c.in_ok-get.ensures.got
    c.count_told-count.result bytes (λ es on. (c.count_told-count.ensures.told es on, refl)) c.search.result c.search.ensures.ok)
