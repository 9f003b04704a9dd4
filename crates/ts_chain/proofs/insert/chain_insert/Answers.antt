use Rattle.std.proofs.Common.{ℕ, Bool, Option, List, sym, subst, ◌∙◌, arith}
use Rattle.ts_space.specs.declared.place.Place.{Place}
use Rattle.ts_space.specs.declared.moved.Moved.{Moved}
use Rattle.ts_row.specs.declared.kind.Column.{Column}
use Rattle.ts_chain.specs.Call.{IsInserted}
use Rattle.ts_chain.proofs.ChangeLemmas.{if_ok}
use Rattle.ts_chain.proofs.InsertLemmas.{empty_places, put_first, inserted_since}
use Rattle.ts_chain.proofs.insert.chain_insert.Goals as goal

pub returns-then-is_empty-clause-ok : goal.returns-then-is_empty-clause-ok
returns-then-is_empty-clause-ok g c =
    let columns : List Column = c.args.shelf.now.kind.now.columns in
    let none = empty_places c.places-places.result.now c.is_empty.result c.is_empty.ensures c.if-is_empty.true in
    put_first g.P.Pages.tells c.args.shelf.now.series columns c.args.stamp c.args.row.now _ c.in_ok-place.place (g.P.Pages.contents c.args.pages.now) (g.P.Pages.contents c.put_alone.new.pages) (omega (arith, c.requires.slot)) (sym c.places-places.ensures.ok ∙ none)
    c.in_ok-place.ensures.more c.in_ok-place.ensures.put

pub returns-clause-ok : goal.returns-clause-ok
returns-clause-ok g c =
    let tells : Bool = g.P.Pages.tells in
    let slot : ℕ = c.args.shelf.now.series in
    let columns : List Column = c.args.shelf.now.kind.now.columns in
    let places : List Place = c.places-places.result.now in
    let row = c.args.row.now in
    let v = g.P.Pages.contents c.args.pages.now in
    let u = g.P.Pages.contents c.get.new.self in
    let w = g.P.Pages.contents c.insert_read.new.pages in
    let got = c.in_ok-get.ensures.got in
    if_ok (λ (o : Option Moved). IsInserted tells slot columns c.args.stamp row places u w o) (λ (o : Option Moved). IsInserted tells slot columns c.args.stamp row _ v w o) c.insert_read.result
    (λ o r. subst (λ (ps : List Place). IsInserted tells slot columns c.args.stamp row ps v w o) c.places-places.ensures.ok
    (inserted_since tells slot columns c.args.stamp row places v u w o got.free got.change_bytes got.pages r)) c.insert_read.ensures.ok
