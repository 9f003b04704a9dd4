use Rattle.std.proofs.Common.{◌<◌, All, Some, Ok, List, length, sym, subst, refl, ◌∙◌, arith, get_or}
use Rattle.ts_space.specs.declared.place.Place.{Place}
use Rattle.ts_space.specs.Place.{AreAbove}
use Rattle.ts_row.specs.declared.kind.Column.{Column}
use Rattle.ts_sheets.specs.Places.{IsHolder, CanBeRead}
use Rattle.ts_chain.specs.Call.{IsPlaceIn}
use Rattle.ts_chain.proofs.FindLemmas.{holder_get, holder_within}
use Rattle.ts_chain.proofs.BehindLemmas.{place_before, no_holder, counted_since, place_free, place_behind}
use Rattle.ts_chain.proofs.place.chain_place.Goals as goal

pub returns-in_default-clause-place : goal.returns-in_default-clause-place
returns-in_default-clause-place g c =
    place_before g.P.Pages.tells c.args.shelf.now.series c.args.shelf.now.kind.now.columns c.args.stamp _ (g.P.Pages.contents c.args.pages.now)
    (subst (AreAbove c.args.stamp) c.places-places.ensures.ok (c.in_default.ensures.none refl))

pub returns-in_default-search-clause-place : goal.returns-in_default-search-clause-place
returns-in_default-search-clause-place g c =
    let v = g.P.Pages.contents c.args.pages.now in
    let columns : List Column = c.args.shelf.now.kind.now.columns in
    let places : List Place = c.places-places.result.now in
    let place : Place = get_or places c.in-Some.index _ in
    subst (λ (ps : List Place). IsPlaceIn g.P.Pages.tells c.args.shelf.now.series columns c.args.stamp ps v (Some c.args.stamp)) c.places-places.ensures.ok
    (place_free g.P.Pages.tells c.args.shelf.now.series columns c.args.stamp places c.in-Some.index place c.count_on.new.page.bytes c.in_ok-count.count c.in_default-search.field-0 v c.in-Some.ensures.some
    (holder_get c.args.stamp places c.in-Some.index _ c.in-Some.ensures.some) c.in_ok-count.ensures.told c.in_ok-count.ensures.room
    (λ es order count behind. sym c.in_default-search.is ∙ c.search.ensures.ok es order count behind))

pub returns-in_default-holder-clause-place : goal.returns-in_default-holder-clause-place
returns-in_default-holder-clause-place g c =
    absurd (no_holder c.args.stamp c.last_unit-end.result c.places-places.result.now c.in-Some.index c.in-Some.ensures.some (c.in_default-holder.ensures.none refl) c.last_unit-end.ensures.later)

pub returns-then-last-index-clause-place : goal.returns-then-last-index-clause-place
returns-then-last-index-clause-place g c =
    let v = g.P.Pages.contents c.args.pages.now in
    let columns : List Column = c.args.shelf.now.kind.now.columns in
    let places : List Place = c.places-places.result.now in
    let place : Place = get_or places c.in-Some.index _ in
    let last : IsHolder c.last_unit-end.result places c.in-Some.index = subst (IsHolder c.last_unit-end.result places) c.if-last-index.true c.in-Some-holder.ensures.some in
    subst (λ (ps : List Place). IsPlaceIn g.P.Pages.tells c.args.shelf.now.series columns c.args.stamp ps v c.behind_last.result) c.places-places.ensures.ok
    (place_behind g.P.Pages.tells c.args.shelf.now.series columns c.args.stamp places c.in-Some.index place c.count_on.new.page.bytes c.in_ok-count.count c.in-Ok.field-0 v c.in-Some.ensures.some
    (holder_get c.args.stamp places c.in-Some.index _ c.in-Some.ensures.some) c.in_ok-count.ensures.told c.in_ok-count.ensures.room
    (λ es order count behind. sym c.in-Ok.is ∙ c.search.ensures.ok es order count behind)
    c.last_unit-end.result c.last_unit-end.ensures.next c.in-Some.index place c.count_on.new.page.bytes c.in_ok-count.count last
    (holder_get c.last_unit-end.result places c.in-Some.index _ last) c.in_ok-count.ensures.told c.in_ok-count.ensures.room c.behind_last.result c.behind_last.ensures)

pub count_on-requires-2 : goal.count_on-requires-2
count_on-requires-2 g c =
    let v = g.P.Pages.contents c.args.pages.now in
    let within : c.in-Some-holder.last < length c.places-places.result.now = holder_within c.last_unit-end.result c.places-places.result.now c.in-Some-holder.last c.in-Some-holder.ensures.some in
    let readable : All (CanBeRead v) c.places-places.result.now = subst (All (CanBeRead v)) (sym c.places-places.ensures.ok) c.requires.readable in
    let is = readable c.in-Some-holder.last _ within in
    record { readable = record { element = is.element; below = omega (arith, is.below, c.in_ok-count.ensures.call.call.count) } }

pub returns-clause-place : goal.returns-clause-place
returns-clause-place g c =
    let v = g.P.Pages.contents c.args.pages.now in
    let w = g.P.Pages.contents c.count_on.new.pages in
    let columns : List Column = c.args.shelf.now.kind.now.columns in
    let places : List Place = c.places-places.result.now in
    let place : Place = get_or places c.in-Some.index _ in
    let other : Place = get_or places c.in-Some-holder.last _ in
    subst (λ (ps : List Place). IsPlaceIn g.P.Pages.tells c.args.shelf.now.series columns c.args.stamp ps v c.behind_last-2.result) c.places-places.ensures.ok
    (place_behind g.P.Pages.tells c.args.shelf.now.series columns c.args.stamp places c.in-Some.index place c.count_on.new.page.bytes c.in_ok-count.count c.in-Ok.field-0 v c.in-Some.ensures.some
    (holder_get c.args.stamp places c.in-Some.index _ c.in-Some.ensures.some) c.in_ok-count.ensures.told c.in_ok-count.ensures.room
    (λ es order count behind. sym c.in-Ok.is ∙ c.search.ensures.ok es order count behind)
    c.last_unit-end.result c.last_unit-end.ensures.next c.in-Some-holder.last other c.count_on-2.new.page.bytes c.in_ok-count-2.count c.in-Some-holder.ensures.some
    (holder_get c.last_unit-end.result places c.in-Some-holder.last _ c.in-Some-holder.ensures.some)
    (counted_since g.P.Pages.tells c.args.shelf.now.series columns other c.count_on-2.new.page.bytes c.in_ok-count-2.count (Ok c.in_ok-count.count) v w c.in_ok-count.ensures.call c.in_ok-count-2.ensures.told)
    c.in_ok-count-2.ensures.room c.behind_last-2.result c.behind_last-2.ensures)
