use Rattle.std.proofs.Common.{◌<◌, All, List, length, sym, subst, refl, ◌∙◌, arith, get_or}
use Rattle.ts_space.specs.declared.place.Place.{Place}
use Rattle.ts_space.specs.Place.{AreAbove}
use Rattle.ts_irregular.proofs.HeadLemmas.{part_behind, length-page}
use Rattle.ts_irregular.proofs.FindLemmas.{row_there}
use Rattle.ts_sheets.specs.Places.{IsHolder, CanBeRead}
use Rattle.ts_chain.specs.Call.{IsRowIn}
use Rattle.ts_chain.proofs.FindLemmas.{none_in, row_in, holder_get, holder_within}
use Rattle.ts_chain.proofs.find.chain_find.Goals as goal

pub returns-in_default-clause-found : goal.returns-in_default-clause-found
returns-in_default-clause-found g c =
    none_in g.P.Pages.tells c.args.shelf.now.series c.args.shelf.now.kind.now.columns c.args.stamp _ (g.P.Pages.contents c.args.pages.now)
    (subst (AreAbove c.args.stamp) c.places-places.ensures.ok (c.in_default.ensures.none refl))

pub bounds-places-index : goal.bounds-places-index
bounds-places-index g c = holder_within c.args.stamp c.places-places.result.now c.in-Some.index c.in-Some.ensures.some

pub get-requires : goal.get-requires
get-requires g c =
    let within : c.in-Some.index < length c.places-places.result.now = holder_within c.args.stamp c.places-places.result.now c.in-Some.index c.in-Some.ensures.some in
    let readable : All (CanBeRead (g.P.Pages.contents c.args.pages.now)) c.places-places.result.now = subst (All (CanBeRead (g.P.Pages.contents c.args.pages.now))) (sym c.places-places.ensures.ok) c.requires.readable in
    (readable c.in-Some.index _ within).below

pub returns-clause-found : goal.returns-clause-found
returns-clause-found g c =
    let v = g.P.Pages.contents c.args.pages.now in
    let columns = c.args.shelf.now.kind.now.columns in
    let places : List Place = c.places-places.result.now in
    let h : IsHolder c.args.stamp places c.in-Some.index = c.in-Some.ensures.some in
    let within : c.in-Some.index < length places = holder_within c.args.stamp places c.in-Some.index h in
    let readable : All (CanBeRead v) places = subst (All (CanBeRead v)) (sym c.places-places.ensures.ok) c.requires.readable in
    let place : Place = get_or places c.in-Some.index _ in
    let there = row_there g.P.Pages.tells c.args.shelf.now.series c.count_told-count.result columns c.args.stamp _ place c.get.new.into.bytes c.in_ok-row_at.field-0 v (g.P.Pages.contents c.get.new.self)
    refl (readable c.in-Some.index _ within).element c.in_ok-get.ensures.got c.count_told-count.ensures.told
    (λ es order count behind. c.in_ok-row_at.ensures.found es order count (part_behind 4064 c.get.new.into.bytes (length-page columns es c.get.new.into.bytes order.each (omega (arith, count, c.count_told-count.ensures.room)) behind) ∙ behind)) in
    subst (λ (ps : List Place). IsRowIn g.P.Pages.tells c.args.shelf.now.series columns c.args.stamp ps v c.in_ok-row_at.field-0) c.places-places.ensures.ok
    (row_in g.P.Pages.tells c.args.shelf.now.series columns c.args.stamp places c.in-Some.index place v c.in_ok-row_at.field-0 h (holder_get c.args.stamp places c.in-Some.index _ h) there)
