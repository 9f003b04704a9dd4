use Rattle.std.proofs.Common.{◌≤◌, List, refl, ap, subst, ◌∙◌, arith}
use Rattle.std.specs.Int.{int_min}
use Rattle.ts_base.specs.Moment.{IsStamp}
use Rattle.ts_space.specs.declared.place.Place.{Place}
use Rattle.ts_page.specs.Pages.{EqualPages, with_page}
use Rattle.ts_row.specs.declared.kind.Column.{Column}
use Rattle.ts_cells.specs.IrregularPage.{IsElement}
use Rattle.ts_chain.proofs.EndLemmas.{answered_ok, target_get}
use Rattle.ts_chain.proofs.InsertLemmas.{there_already, parted_of, put_more}
use Rattle.ts_chain.proofs.insert.insert_read.Goals as goal

pub returns-in_default-clause-ok : goal.returns-in_default-clause-ok
returns-in_default-clause-ok g c =
    let t = c.requires.target in
    there_already g.P.Pages.tells c.args.shelf.now.series c.args.shelf.now.kind.now.columns c.args.target.stamp c.args.places.now c.args.target.index (g.P.Pages.contents c.args.pages.now) t c.requires.rising c.requires.places _ c.args.page.now.bytes c.count_taken-count.new.page.bytes
    c.count_taken-count.result (c.requires.read t) c.count_taken-count.ensures.told _ c.in_default.ensures.ok c.in_default.field-0 refl

pub returns-then-count-page_room-clause-ok : goal.returns-then-count-page_room-clause-ok
returns-then-count-page_room-clause-ok g c =
    let t = c.requires.target in
    let places : List Place = c.args.places.now in
    let columns : List Column = c.args.shelf.now.kind.now.columns in
    let v = g.P.Pages.contents c.args.pages.now in
    let is : IsElement columns (c.args.target.stamp, c.args.row.now) = record { stamp = subst IsStamp c.units-units.ensures.value c.units-units.ensures.within; row = c.requires.fits } in
    let held = target_get c.args.target.stamp places c.args.target.index _ t in
    put_more g.P.Pages.tells c.args.shelf.now.series columns c.args.target.stamp places c.args.target.index v t c.requires.rising c.requires.places _ c.args.page.now.bytes c.count_taken-count.new.page.bytes
    c.count_taken-count.result (c.requires.read t) c.count_taken-count.ensures.told _ c.in-Err.ensures.ok c.in-Err.at refl c.args.row.now is (g.P.Pages.contents c.put.new.self) c.grown.result c.insert_into.new.page.bytes
    (omega (arith, c.page_room.ensures.value, c.if-count-page_room.true)) (subst (λ (p : Place). c.count_taken-count.result ≤ p.count) held c.count_taken-count.ensures.few) c.in_ok-put.ensures.put.free
    (c.grown.ensures.page ∙ ap (λ (p : Place). p.page) held) c.grown.ensures.count (c.grown.ensures.at ∙ ap (λ (p : Place). int_min p.at c.args.target.stamp) held) c.insert_into.ensures
    (λ told. subst (λ (p : Place). EqualPages (with_page p.page c.insert_into.new.page.bytes v.page) (g.P.Pages.contents c.put.new.self).page) held (c.in_ok-put.ensures.put.put told))

pub returns-then-count-page_room-clause-call : goal.returns-then-count-page_room-clause-call
returns-then-count-page_room-clause-call g c = answered_ok _ _ (g.P.Pages.contents c.args.pages.now) (g.P.Pages.contents c.put.new.self) c.in_ok-put.ensures.put.call

pub returns-clause-ok : goal.returns-clause-ok
returns-clause-ok g c =
    let columns : List Column = c.args.shelf.now.kind.now.columns in
    let is : IsElement columns (c.args.target.stamp, c.args.row.now) = record { stamp = subst IsStamp c.units-units.ensures.value c.units-units.ensures.within; row = c.requires.fits } in
    c.in_ok-moved.ensures.ok c.args.row.now is
    (λ t. parted_of g.P.Pages.tells c.args.shelf.now.series columns c.args.target.stamp c.args.places.now c.args.target.index (g.P.Pages.contents c.args.pages.now) t c.requires.rising c.requires.places _ c.args.page.now.bytes c.count_taken-count.new.page.bytes
    c.count_taken-count.result (c.requires.read t) c.count_taken-count.ensures.told _ c.in-Err.ensures.ok c.in-Err.at refl c.args.row.now is (omega (arith, c.count_taken-count.ensures.room, c.page_room.ensures.value, c.if-count-page_room.false))
    c.halve.new.page.bytes c.halve.new.others.bytes c.halve.ensures.half c.halve.ensures.others)

pub returns-clause-call : goal.returns-clause-call
returns-clause-call g c = answered_ok _ _ (g.P.Pages.contents c.args.pages.now) (g.P.Pages.contents c.keep_halves.new.pages) c.in_ok-moved.ensures.call
