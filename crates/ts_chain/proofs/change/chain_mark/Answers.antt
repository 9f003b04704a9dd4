use Rattle.std.proofs.Common.{List, subst, refl, get_or}
use Rattle.ts_space.specs.declared.place.Place.{Place}
use Rattle.ts_space.specs.Place.{AreAbove}
use Rattle.ts_row.specs.Row.{marked}
use Rattle.ts_chain.proofs.FindLemmas.{holder_get, holder_within}
use Rattle.ts_chain.proofs.ChangeLemmas.{changed_answer, none_changed}
use Rattle.ts_chain.proofs.change.chain_mark.Goals as goal

pub bounds-places-index : goal.bounds-places-index
bounds-places-index g c = holder_within c.args.stamp c.places-places.result.now c.in-Some.index c.in-Some.ensures.some

pub returns-in_default-clause-ok : goal.returns-in_default-clause-ok
returns-in_default-clause-ok g c =
    none_changed g.P.Pages.tells c.args.shelf.now.series c.args.shelf.now.kind.now.columns c.args.stamp _ (g.P.Pages.contents c.args.pages.now)
    (subst (AreAbove c.args.stamp) c.places-places.ensures.ok (c.in_default.ensures.none refl))

pub returns-clause-ok : goal.returns-clause-ok
returns-clause-ok g c =
    let places : List Place = c.places-places.result.now in
    changed_answer g.P.Pages.tells c.args.shelf.now.series c.args.shelf.now.kind.now.columns c.args.stamp places _ c.in-Some.index (get_or places c.in-Some.index _) (g.P.Pages.contents c.args.pages.now) (g.P.Pages.contents c.mark_on.new.pages)
    (marked c.args.hidden) c.mark_on.result c.in-Some.ensures.some (holder_get c.args.stamp places c.in-Some.index _ c.in-Some.ensures.some) c.places-places.ensures.ok c.requires.places c.mark_on.ensures.ok
